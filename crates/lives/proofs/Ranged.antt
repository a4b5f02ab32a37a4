-- What is written stays within the limit as it counts and in range: combining does so, and each method only combines operands of its ways.
use Rattle.std.proofs.Common.{◌≡◌, ℕ, zero, suc, ◌+◌, ◌<◌, ◌≤◌, Bool, true, false, cond, ltb, List, [], ◌∷◌, ◌++◌, length, Some, None, filter, Option, refl, arith}
use Rattle.std.specs.List.{AllByRecursion}
use Rattle.std.proofs.ByRecursion.{All-push, All-weaker, All-map, all_kept_by}
use Rattle.std.proofs.lemmas.List.{length_push}
use Rattle.std.proofs.lemmas.Bool.{ltb-true}
use Rattle.rack.specs.declared.part.Literal.{Literal}
use Rattle.rack.specs.declared.part.Part.{Part}
use Rattle.rack.specs.declared.part.Sign.{Sign}
use Rattle.rack.specs.declared.part.Sign.TheVariants as sign
use Rattle.rack.specs.Way.{Way}
use Rattle.table.specs.Kept.{same_literal, holds, keeps, kept_after, kept}
use Rattle.definitions.specs.declared.operand.Operator.{Operator}
use Rattle.definitions.specs.declared.operand.Operator.TheVariants.{Meet, Join}
use Rattle.definitions.specs.declared.operand.Operand.{Operand}
use Rattle.definitions.specs.declared.operand.Operand.TheVariants.{Never, Always, Works, Out}
use Rattle.definitions.specs.declared.operand.Definition.{Definition}
use Rattle.definitions.specs.Operands.{numbered, same_operand}
use Rattle.definitions.specs.Combine.{State, Writing, give, and_then, choose, simply, place_in, counted, or_add, or_define, combining}
use Rattle.working.specs.Records.{lacking, has_empty, size, signed, operand_of}
use Rattle.naive.specs.Naive.{meeting, joining}
use Rattle.decomposition.specs.Decomposition.{working_of, out_of, under, beside, start_of, closing, by_part, by_start, decompose_in}
use Rattle.merging.specs.Merging.{is_in, heads_after, rests_of, heads, join_heads, merge_in, longest}
use Rattle.methods.specs.declared.translate.Method.{Method}
use Rattle.methods.specs.declared.translate.Method.TheVariants.{Naive, Decomposition, NodeMerging}
use Rattle.methods.specs.Methods.{rule_of}
use Rattle.laws.proofs.Combined.{Each, each_onward}
use Rattle.laws.proofs.Pushed.{Finds, finds}
use Rattle.lives.specs.Ranges.{InRange, LiteralInRange, WayInRange, WaysInRange}

abbrev pub DefinitionInRange : Definition → Type 0
DefinitionInRange d = InRange d.first × InRange d.second

-- within the limit as it counts, and all in range
pub record Fits (limit : ℕ) (st : State) : Type 0 where
  pub within : length st.all ≤ counted limit
  pub ranged : AllByRecursion DefinitionInRange st.all
  pub answer : InRange st.answer

-- what a writing leaves fits, where what it found does
abbrev Fitting : ℕ → Writing → Type 0
Fitting limit w = (ds : List Definition) → length ds ≤ counted limit → AllByRecursion DefinitionInRange ds → Each (Fits limit) (w ds)

-- ---- combining
abbrev AnswerInRange : Option Operand → Type 0
AnswerInRange None = Unit {0}
AnswerInRange (Some x) = InRange x

either : (t : Bool) (x : Operand) (rest : Option Operand) → InRange x → AnswerInRange rest → AnswerInRange (choose t (Some x) rest)
either true x rest h k = h
either false x rest h k = k

simply_ranged : (o : Operator) (a b : Operand) → InRange a → InRange b → AnswerInRange (simply o a b)
simply_ranged Meet a b h k =
    either (same_operand a Never) Never _ tt (either (same_operand b Never) Never _ tt (either (same_operand a Always) b _ k (either (same_operand b Always) a _ h (either (same_operand a b) a _ h tt))))
simply_ranged Join a b h k =
    either (same_operand a Always) Always _ tt (either (same_operand b Always) Always _ tt (either (same_operand a Never) b _ k (either (same_operand b Never) a _ h (either (same_operand a b) a _ h tt))))

module _ (limit : ℕ) where
  fit_give : (x : Operand) → InRange x → Fitting limit (give x)
  fit_give x h ds l r = record { within = l; ranged = r; answer = h }

  fit_then : (w : Writing) (f : Operand → Writing) → Fitting limit w → ((x : Operand) → InRange x → Fitting limit (f x)) → Fitting limit (and_then w f)
  fit_then w f h k ds l r = each_onward (Fits limit) (w ds) f (h ds l r) (λ st p. k st.answer p.answer st.all p.within p.ranged)

  fit_choose : (t : Bool) (u v : Writing) → Fitting limit u → Fitting limit v → Fitting limit (choose t u v)
  fit_choose true u v h k = h
  fit_choose false u v h k = k

  fit_add : (d : Definition) → DefinitionInRange d → (ds : List Definition) → length ds ≤ counted limit → AllByRecursion DefinitionInRange ds → (r : Option ℕ) → Finds d ds r → Each (Fits limit) (or_add limit d r ds)
  fit_add d h ds l r (Some i) f = record { within = l; ranged = r; answer = omega arith }
  fit_add d h ds l r None f = go (ltb (length ds) (counted limit)) refl
    where
      go : (t : Bool) → ltb (length ds) (counted limit) ≡ t → Each (Fits limit) (choose t (give (numbered (length ds + 1)) (ds ++ d ∷ [])) None)
      go false e = tt
      go true e =
          let room = ltb-true (length ds) (counted limit) e in
          record { within = omega (arith, length_push ds d); ranged = All-push DefinitionInRange ds d r h; answer = omega arith }

  fit_define : (o : Operator) (a b : Operand) → InRange a → InRange b → (s : Option Operand) → AnswerInRange s → Fitting limit (or_define limit s (record { operator = o; first = a; second = b }))
  fit_define o a b h k (Some x) q ds l r = fit_give x q ds l r
  fit_define o a b h k None q ds l r =
      let d : Definition = record { operator = o; first = a; second = b } in
      fit_add d (h, k) ds l r (place_in d ds) (finds d ds)

  pub fit_combining : (o : Operator) (a b : Operand) → InRange a → InRange b → Fitting limit (combining limit o a b)
  fit_combining o a b h k = fit_define o a b h k (simply o a b) (simply_ranged o a b h k)

-- ---- ways
literal_ranged : (l : Literal) → LiteralInRange l → InRange (operand_of l)
literal_ranged l h = by l.sign
  where
    by : (s : Sign) → InRange (signed s l.part)
    by sign.Works = h
    by sign.Out = h

under_ranged : (h : Literal) (ws : List Way) → WaysInRange ws → WaysInRange (under h ws)
under_ranged h ws r =
    let some = all_kept_by (holds h) WayInRange ws r in
    All-map WayInRange (lacking h) (filter (holds h) ws) (All-weaker WayInRange (λ w. WayInRange (lacking h w)) (λ w k. all_kept_by _ LiteralInRange w k) (filter (holds h) ws) some)

beside_ranged : (h : Literal) (ws : List Way) → WaysInRange ws → WaysInRange (beside h ws)
beside_ranged h ws r = all_kept_by _ WayInRange ws r

rests_ranged : (h : Literal) (ws : List Way) → WaysInRange ws → WaysInRange (rests_of h ws)
rests_ranged h [] r = tt
rests_ranged h ([] ∷ ws) r = rests_ranged h ws r.1
rests_ranged h ((g ∷ w) ∷ ws) r = go (same_literal g h) (rests_ranged h ws r.1)
  where
    go : (t : Bool) → WaysInRange (rests_of h ws) → WaysInRange (choose t (w ∷ rests_of h ws) (rests_of h ws))
    go true k = (r.0.1, k)
    go false k = k

heads_ranged : (gs : List Literal) (ws : List Way) → WayInRange gs → WaysInRange ws → WayInRange (heads_after same_literal gs ws)
heads_ranged gs [] g r = g
heads_ranged gs ([] ∷ ws) g r = heads_ranged gs ws g r.1
heads_ranged gs ((h ∷ w) ∷ ws) g r = go (is_in same_literal h gs) (heads_ranged gs ws g r.1) (heads_ranged (gs ++ h ∷ []) ws (All-push LiteralInRange gs h g r.0.0) r.1)
  where
    go : (t : Bool) → WayInRange (heads_after same_literal gs ws) → WayInRange (heads_after same_literal (gs ++ h ∷ []) ws) → WayInRange (choose t (heads_after same_literal gs ws) (heads_after same_literal (gs ++ h ∷ []) ws))
    go true a b = a
    go false a b = b

kept_after_ranged : (earlier ws : List Way) → WaysInRange ws → WaysInRange (kept_after earlier ws)
kept_after_ranged earlier [] r = tt
kept_after_ranged earlier (w ∷ ws) r = go (keeps w earlier) (kept_after_ranged (earlier ++ w ∷ []) ws r.1)
  where
    go : (t : Bool) → WaysInRange (kept_after (earlier ++ w ∷ []) ws) → WaysInRange (cond t (w ∷ kept_after (earlier ++ w ∷ []) ws) (kept_after (earlier ++ w ∷ []) ws))
    go true k = (r.0, k)
    go false k = k

pub kept_ranged : (ws : List Way) → WaysInRange ws → WaysInRange (kept ws)
kept_ranged ws r = kept_after_ranged [] ws r

-- ---- the methods
module _ (limit : ℕ) where
  fit_meeting : (w : Way) (sofar : Operand) → InRange sofar → WayInRange w → Fitting limit (meeting limit sofar w)
  fit_meeting [] sofar h r = fit_give limit sofar h
  fit_meeting (l ∷ w) sofar h r =
      fit_then limit (combining limit Meet sofar (operand_of l)) _ (fit_combining limit Meet sofar (operand_of l) h (literal_ranged l r.0)) (λ m k. fit_meeting w m k r.1)

  fit_joining : (ws : List Way) (sofar : Operand) → InRange sofar → WaysInRange ws → Fitting limit (joining limit sofar ws)
  fit_joining [] sofar h r = fit_give limit sofar h
  fit_joining (w ∷ ws) sofar h r =
      fit_then limit (meeting limit Always w) _ (fit_meeting w Always tt r.0) (λ m k.
      fit_then limit (combining limit Join sofar m) _ (fit_combining limit Join sofar m h k) (λ j i. fit_joining ws j i r.1))

  fit_closing : (v : Part) (a b c : Operand) → v.0 < 256 → InRange a → InRange b → InRange c → Fitting limit (closing limit v a b c)
  fit_closing v a b c h ra rb rc =
      fit_then limit (combining limit Meet (Works v) a) _ (fit_combining limit Meet (Works v) a h ra) (λ m rm.
      fit_then limit (combining limit Meet (Out v) b) _ (fit_combining limit Meet (Out v) b h rb) (λ n rn.
      fit_then limit (combining limit Join m n) _ (fit_combining limit Join m n rm rn) (λ j rj.
      fit_combining limit Join j c rj rc)))

  fit_part : (sub : List Way → Writing) → ((us : List Way) → WaysInRange us → Fitting limit (sub us)) → (ws : List Way) → WaysInRange ws → (v : Part) → v.0 < 256 → Fitting limit (by_part limit sub v ws (beside (working_of v) ws))
  fit_part sub h ws r v k =
      let others = beside (working_of v) ws in
      let ro = beside_ranged (working_of v) ws r in
      fit_then limit (sub (under (working_of v) ws)) _ (h (under (working_of v) ws) (under_ranged (working_of v) ws r)) (λ a ra.
      fit_then limit (sub (under (out_of v) others)) _ (h (under (out_of v) others) (under_ranged (out_of v) others ro)) (λ b rb.
      fit_then limit (sub (beside (out_of v) others)) _ (h (beside (out_of v) others) (beside_ranged (out_of v) others ro)) (λ c rc.
      fit_closing v a b c k ra rb rc)))

  fit_decompose : (n : ℕ) (ws : List Way) → WaysInRange ws → Fitting limit (decompose_in limit n ws)
  fit_decompose zero ws r = fit_give limit Never tt
  fit_decompose (suc n) [] r = fit_give limit Never tt
  fit_decompose (suc n) ([] ∷ ws) r = fit_give limit Always tt
  fit_decompose (suc n) ((l ∷ w) ∷ ws) r = go (λ us m. fit_decompose n us m) (has_empty ws)
    where
      all : List Way
      all = (l ∷ w) ∷ ws

      -- t: whether a way behind the first has no literal; then all ways begin as an empty one does, and otherwise as the first
      go : ((us : List Way) → WaysInRange us → Fitting limit (decompose_in limit n us)) → (t : Bool) → Fitting limit (by_start limit (decompose_in limit n) all (choose t (start_of ([] ∷ [])) (start_of ((l ∷ w) ∷ []))))
      go sub true = fit_give limit Always tt
      go sub false = fit_part (decompose_in limit n) sub all r l.part r.0.0

  fit_heads : (sub : List Way → Writing) → ((us : List Way) → WaysInRange us → Fitting limit (sub us)) → (ws : List Way) → WaysInRange ws → (hs : List Literal) → WayInRange hs → (sofar : Operand) → InRange sofar → Fitting limit (join_heads limit sub ws sofar hs)
  fit_heads sub k ws r [] g sofar s = fit_give limit sofar s
  fit_heads sub k ws r (h ∷ hs) g sofar s =
      fit_then limit (sub (rests_of h ws)) _ (k (rests_of h ws) (rests_ranged h ws r)) (λ b rb.
      fit_then limit (combining limit Meet (operand_of h) b) _ (fit_combining limit Meet (operand_of h) b (literal_ranged h g.0) rb) (λ m rm.
      fit_then limit (combining limit Join sofar m) _ (fit_combining limit Join sofar m s rm) (λ j rj.
      fit_heads sub k ws r hs g.1 j rj)))

  fit_merge : (n : ℕ) (ws : List Way) → WaysInRange ws → Fitting limit (merge_in limit n ws)
  fit_merge zero ws r = fit_choose limit (has_empty ws) (give Always) (give Never) (fit_give limit Always tt) (fit_give limit Never tt)
  fit_merge (suc n) ws r =
      fit_choose limit (has_empty ws) (give Always) _ (fit_give limit Always tt)
      (fit_heads (merge_in limit n) (fit_merge n) ws r (heads ws) (heads_ranged [] ws tt r) Never tt)

  pub fit_rule : (m : Method) (ws : List Way) → WaysInRange ws → Fitting limit (rule_of m limit ws)
  fit_rule Naive ws r = fit_joining ws Never tt r
  fit_rule Decomposition ws r = fit_decompose (size ws) ws r
  fit_rule NodeMerging ws r = fit_merge (longest ws) ws r
