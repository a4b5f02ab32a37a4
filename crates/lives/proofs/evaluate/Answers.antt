-- The answer is that of the evaluation called, and every life keeps its promise over the algebra of the elements.
use Rattle.lives.proofs.Lived.{every_life}
use Rattle.lives.proofs.evaluate.Goals as goal

pub returns : goal.returns
returns g c =
    record {
      answer = c.evaluate.ensures;
      life = every_life g.A.BooleanAlgebra.algebra g.met.A.BooleanAlgebra.lattice g.met.A.BooleanAlgebra.complemented;
    }
