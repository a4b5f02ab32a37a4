-- One writing after another: what the first call left is what the second found, and a refusal ends both.
use Rattle.std.proofs.Common.{◌≡◌, ℕ, ◌≤◌, true, List, take, is_err, None, Ok, Err, Result, sym, refl, ap, ◌∙◌, subst, arith}
use Rattle.std.proofs.lemmas.List.{take-take}
use Rattle.std.proofs.lemmas.Bool.{false≢true}
use Rattle.definitions.specs.declared.operand.Operand.{Operand}
use Rattle.definitions.specs.declared.draft.Draft.{Draft}
use Rattle.definitions.specs.declared.draft.LimitReached.{LimitReached}
use Rattle.definitions.specs.Combine.{Writing, give, onward, and_then, counted}
use Rattle.definitions.specs.Writing.{written_in, seen, Grown, Wrote}

take_less : {X : Type 0} (xs ys : List X) (m n : ℕ) → m ≤ n → take n xs ≡ take n ys → take m xs ≡ take m ys
take_less xs ys m n le e = sym (take-take m n xs le) ∙ ap (take m) e ∙ take-take m n ys le

-- the same slots, count and limit
pub stays : {was after : Draft} → after.slots.now ≡ was.slots.now → after.count ≡ was.count → after.limit ≡ was.limit → after.slots.ghost_name ≡ was.slots.ghost_name → Grown was after
stays {was} s c l n = record { below = ap (take was.count) s; grown = omega (arith, c); within = omega (arith, c); limit = l; lender = n }

pub same_draft : {d : Draft} → Grown d d
same_draft = stays refl refl refl refl

pub both : {was mid after : Draft} → Grown was mid → Grown mid after → Grown was after
both {was} {mid} {after} a b =
    let same : counted mid.limit ≡ counted was.limit = ap counted a.limit in
    record {
      below = take_less after.slots.now mid.slots.now was.count mid.count a.grown b.below ∙ a.below;
      grown = omega (arith, a.grown, b.grown);
      within = omega (arith, a.within, b.within);
      limit = b.limit ∙ a.limit;
      lender = b.lender ∙ a.lender;
    }

failed : (q : Result Operand LimitReached) (d : Draft) → is_err q ≡ true → seen q (written_in d) ≡ None
failed (Ok x) d f = absurd (false≢true f)
failed (Err e) d f = refl

-- an operand that needs no writing
pub at_once : {d : Draft} (x : Operand) → Wrote d d (Ok x) (give x)
at_once x = record { answer = refl; grown = same_draft }

module _ {was mid : Draft} {F : Writing} where
  pub chain : {after : Draft} {x : Operand} {q : Result Operand LimitReached} (G : Operand → Writing) → Wrote was mid (Ok x) F → Wrote mid after q (G x) → Wrote was after q (and_then F G)
  chain G a b = record { answer = b.answer ∙ ap (λ o. onward o G) a.answer; grown = both a.grown b.grown }

  pub stop : {e : LimitReached} (q : Result Operand LimitReached) (G : Operand → Writing) → is_err q ≡ true → Wrote was mid (Err e) F → Wrote was mid q (and_then F G)
  stop q G f a = record { answer = failed q mid f ∙ ap (λ o. onward o G) a.answer; grown = a.grown }

  -- the same writing under another name
  pub like : {r : Result Operand LimitReached} {G : Writing} → G ≡ F → Wrote was mid r F → Wrote was mid r G
  like {r} e a = subst (λ (w : Writing). Wrote was mid r w) (sym e) a

-- what follows a writing is read at the limit that the writing began with
pub at_first_limit : {was mid after : Draft} {r : Result Operand LimitReached} (F : ℕ → Writing) → Grown was mid → Wrote mid after r (F mid.limit) → Wrote mid after r (F was.limit)
at_first_limit F g w = like (ap F (sym g.limit)) w

-- A writing under way: of `whole`, which began at `was`, `rest` is left to do at `now`.
pub record Underway (was now : Draft) (rest whole : Writing) : Type 0 where
  pub answer : rest (written_in now) ≡ whole (written_in was)
  pub grown : Grown was now

pub begun : {d : Draft} {w : Writing} → Underway d d w w
begun = record { answer = refl; grown = same_draft }

module _ {was now : Draft} {whole : Writing} where
  pub goes_on : {next : Draft} {x : Operand} {F : Writing} (G : Operand → Writing) → Underway was now (and_then F G) whole → Wrote now next (Ok x) F → Underway was next (G x) whole
  goes_on G a b = record { answer = ap (λ o. onward o G) b.answer ∙ a.answer; grown = both a.grown b.grown }

  pub ends : (x : Operand) → Underway was now (give x) whole → Wrote was now (Ok x) whole
  ends x a = record { answer = a.answer; grown = a.grown }

  pub breaks : {next : Draft} {e : LimitReached} {F : Writing} (q : Result Operand LimitReached) (G : Operand → Writing) → is_err q ≡ true → Underway was now (and_then F G) whole → Wrote now next (Err e) F → Wrote was next q whole
  breaks {next} q G f a b = record { answer = failed q next f ∙ ap (λ o. onward o G) b.answer ∙ a.answer; grown = both a.grown b.grown }

  pub renamed : {rest other : Writing} → other ≡ rest → Underway was now rest whole → Underway was now other whole
  renamed e a = subst (λ (w : Writing). Underway was now w whole) (sym e) a

-- the same place and the same rest, under other names
pub moved : {was now now' : Draft} {x x' : Operand} {whole : Writing} (rest : Operand → Writing) → now' ≡ now → x' ≡ x → Underway was now (rest x) whole → Underway was now' (rest x') whole
moved {was} {now} {now'} {x} {x'} {whole} rest p e a =
    subst (λ (y : Operand). Underway was now' (rest y) whole) (sym e) (subst (λ (d : Draft). Underway was d (rest x) whole) (sym p) a)
