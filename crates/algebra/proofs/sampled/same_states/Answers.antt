-- Equal bits have equal values, and 64 equal digits are equal bits.
use Rattle.std.proofs.Common.{◌≡◌, Decides, sym, ap, subst, arith}
use Rattle.std.proofs.lemmas.Bool.Decides.{Decides-eqb, Decides-like}
use Rattle.algebra.specs.Models.{samples}
use Rattle.algebra.proofs.Bitwise.{bits_same}
use Rattle.algebra.proofs.sampled.same_states.Goals as goal

pub returns-clause-value : goal.returns-clause-value
returns-clause-value c =
    let a = c.args.a.bits in
    let b = c.args.b.bits in
    subst (λ t. Decides t (samples a ≡ samples b)) (sym c.eq.ensures)
    (Decides-like _ (ap samples) (λ e. bits_same 64 a b (omega arith) (omega arith) (λ i h. ap (λ f. f i h) e)) (Decides-eqb a b))
