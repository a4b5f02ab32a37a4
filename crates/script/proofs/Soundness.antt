-- A script is sound when it is opened, and every accepted call keeps it so.
use Rattle.std.proofs.Common.{◌≡◌, ℕ, Bool, true, false, ltb, leb, List, [], length, take, is_ok, Some, None, Ok, Err, Option, Result, sym, refl, subst, arith}
use mathlib.Core.Logic.{∥∥₁_map}
use Rattle.std.proofs.lemmas.Bool.{and_parts, ltb-true, leb-true, false≢true}
use Rattle.rack.specs.declared.refusal.Refusal.{Refusal}
use Rattle.rack.specs.Way.{Way}
use Rattle.table.specs.Kept.{kept}
use Rattle.definitions.specs.declared.operand.Operator.{Operator}
use Rattle.definitions.specs.declared.operand.Operand.{Operand}
use Rattle.definitions.specs.declared.operand.Operand.TheVariants.{Never, Always, Works, Out, Defined}
use Rattle.definitions.specs.declared.operand.Definition.{Definition}
use Rattle.definitions.specs.Combine.{State, choose, combining}
use Rattle.definitions.specs.Sound.{Legal, Sound}
use Rattle.definitions.specs.declared.draft.Draft.{Draft}
use Rattle.definitions.specs.declared.draft.LimitReached.{LimitReached}
use Rattle.definitions.specs.Writing.{written_in, Wrote}
use Rattle.working.specs.declared.record.WorkingRecord.{WorkingRecord}
use Rattle.working.specs.Gather.{needed}
use Rattle.working.specs.Translation.{Outcome.written, Outcome.refused, limited}
use Rattle.methods.specs.declared.translate.Method.{Method}
use Rattle.methods.specs.Methods.{rule_of, Settled}
use Rattle.laws.proofs.Soundly.{combine_sound, method_sound}
use Rattle.script.specs.Script.{known}

pub empty_sound : Sound []
empty_sound =
    record {
      apart = λ i j l. absurd (omega arith);
      differ = λ i l. absurd (omega arith);
      earlier = λ i l. absurd (omega arith);
      plain = λ i l. absurd (omega arith);
    }

pub known_legal : (n : ℕ) (x : Operand) → known n x ≡ true → Legal n x
known_legal n Never e = tt
known_legal n Always e = tt
known_legal n (Works p) e = tt
known_legal n (Out p) e = tt
known_legal n (Defined k) e =
    let both = and_parts (ltb 0 k.0) (leb k.0 n) e in
    (ltb-true 0 k.0 both.0, leb-true k.0 n both.1)

pub combined_sound : {was after : Draft} (o : Operator) (a b x : Operand) → ∥ Sound (written_in was) ∥₁ → known (length (written_in was)) a ≡ true → known (length (written_in was)) b ≡ true → Wrote was after (Ok x) (combining was.limit o a b) → ∥ Sound (written_in after) ∥₁
combined_sound {was} {after} o a b x sound ka kb w =
    let ds = written_in was in
    ∥∥₁_map sound (λ h. (combine_sound was.limit o a b ds (record { answer = x; all = written_in after }) h (known_legal (length ds) a ka) (known_legal (length ds) b kb) (sym w.answer)).1)

-- the same of an answer that is known to be one
pub ran_sound : {was after : Draft} (o : Operator) (a b : Operand) (r : Result Operand LimitReached) → is_ok r ≡ true → ∥ Sound (written_in was) ∥₁ → known (length (written_in was)) a ≡ true → known (length (written_in was)) b ≡ true → Wrote was after r (combining was.limit o a b) → ∥ Sound (written_in after) ∥₁
ran_sound o a b (Ok x) e sound ka kb w = combined_sound o a b x sound ka kb w
ran_sound o a b (Err l) e sound ka kb w = absurd (false≢true e)

-- the definitions in front are as they were
pub same_sound : (s t : List Definition) (n : ℕ) → ∥ Sound (take n s) ∥₁ → take n t ≡ take n s → ∥ Sound (take n t) ∥₁
same_sound s t n h e = subst (λ ds. ∥ Sound ds ∥₁) (sym e) h

-- an outcome that is written comes from what the method wrote
pub wrote_by : (o : Option State) (ds : List Definition) (t : Bool) (e : Refusal) (x : Operand) (k : ℕ) (all : List Definition) → written x k all ≡ choose t (limited ds o) (refused e) → o ≡ Some (record { answer = x; all = all })
wrote_by (Some st) ds true e x k all h = λ i. Some (back i)
  where
    back : st ≡ record { answer = x; all = all }
    back = let p : x ≡ st.answer = cc in let q : all ≡ st.all = cc in sym (λ i. record { answer = p i; all = q i })
wrote_by None ds true e x k all h = absurd (let z : ◌≡◌ {A = ℕ} 0 1 = cc in omega arith)
wrote_by o ds false e x k all h = absurd (let z : ◌≡◌ {A = ℕ} 0 1 = cc in omega arith)

pub settled_sound : {was after : Draft} (method : Method) (ws : List Way) (lent left : List WorkingRecord) (r : Result (Operand × ℕ) Refusal) → ∥ Sound (written_in was) ∥₁ → Settled method ws lent left was after r → ∥ Sound (written_in after) ∥₁
settled_sound {was} {after} method ws lent left (Ok p) h w =
    let ds = written_in was in
    ∥∥₁_map h
    (λ sound.
    (method_sound method was.limit (kept ws) ds (record { answer = p.0; all = written_in after }) sound
    (wrote_by (rule_of method was.limit (kept ws) ds) ds (leb (needed (kept ws)) (length lent)) _ p.0 p.1 (written_in after) w.translated.answer)).1)
settled_sound {was} {after} method ws lent left (Err e) h w =
    let back : after.count ≡ was.count = w.restored refl in
    subst (λ k. ∥ Sound (take k after.slots.now) ∥₁) (sym back) (same_sound was.slots.now after.slots.now was.count h w.translated.grown.below)
