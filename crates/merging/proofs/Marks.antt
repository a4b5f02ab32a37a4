-- Two marks are the same exactly where they are equal, so what the finder says is what `reaching` computes.
use Rattle.std.proofs.Common.{◌≡◌, ℕ, ◌+◌, true, ◌⊎◌, List, [], ◌∷◌, ◌++◌, length, Decides, ap}
use Rattle.std.proofs.lemmas.Bool.{false≢true}
use Rattle.std.proofs.lemmas.Bool.Decides.{Decides-and, Decides-eqb, Decides-like}
use Rattle.rack.specs.First.{FirstAt, Nowhere}
use Rattle.table.proofs.KeptWays.{decides_literal}
use Rattle.merging.proofs.First.{position_found, position_none, first_or_nowhere}
use Rattle.working.specs.declared.record.WorkingRecord.{WorkingRecord}
use Rattle.working.specs.declared.record.WorkingRecord.TheVariants as record_of
use Rattle.merging.specs.Trie.{is_mark, same_mark, branch_at, end_at, reached, or_put, reaching}

pub decides_mark : (a b : WorkingRecord) → is_mark b ≡ true → Decides (same_mark a b) (a ≡ b)
decides_mark a (record_of.Way left) m = absurd (false≢true m)
decides_mark (record_of.Way left) (record_of.Branch q k) m = (λ e. absurd (false≢true e), λ e. absurd (cc))
decides_mark (record_of.Way left) (record_of.End q) m = (λ e. absurd (false≢true e), λ e. absurd (cc))
decides_mark (record_of.Branch p l) (record_of.Branch q k) m =
    Decides-like _ (λ h i. branch_at (h.0 i) (h.1 i)) (λ e. (cc, cc)) (Decides-and _ _ (Decides-eqb p.0 q.0) (decides_literal l k))
decides_mark (record_of.Branch p l) (record_of.End q) m = (λ e. absurd (false≢true e), λ e. absurd (cc))
decides_mark (record_of.End p) (record_of.Branch q k) m = (λ e. absurd (false≢true e), λ e. absurd (cc))
decides_mark (record_of.End p) (record_of.End q) m = Decides-like _ (ap end_at) (λ e. cc) (Decides-eqb p.0 q.0)

module _ (x : WorkingRecord) (m : is_mark x ≡ true) (ys : List WorkingRecord) where
  pub reaching_found : (i : ℕ) → FirstAt ys x i → reaching x ys ≡ reached (i + 1) ys
  reaching_found i h = ap (λ o. or_put o x ys) (position_found x (λ y. same_mark y x) (λ y. decides_mark y x m) ys i h)

  pub reaching_new : Nowhere ys x → reaching x ys ≡ reached (length ys + 1) (ys ++ x ∷ [])
  reaching_new h = ap (λ o. or_put o x ys) (position_none x (λ y. same_mark y x) (λ y. decides_mark y x m) ys h)

  pub look : ((i : ℕ) × FirstAt ys x i) ⊎ Nowhere ys x
  look = first_or_nowhere x (λ y. same_mark y x) (λ y. decides_mark y x m) ys
