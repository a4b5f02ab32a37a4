-- From what the line that is due says to what enter and close answer.
use Rattle.std.proofs.Common.{◌≡◌, ℕ, ◌<◌, ◌≤◌, Bool, cond, ltb, ◌⊎◌, List, Ok, Err, Result, sym, ap, ◌∙◌, inl, inr, ◌&&◌, false}
use Rattle.std.proofs.lemmas.Bool.{lt-ltb, le-ltb, and_from, and_left, and_right}
use Rattle.rack.specs.declared.refusal.Position.{Position}
use Rattle.rack.specs.declared.refusal.Refusal.{Refusal}
use Rattle.rack.specs.declared.refusal.Refusal.TheVariants.{TableFull}
use Rattle.rack.specs.Way.{Way}
use Rattle.text.specs.Frames.{followed, at, end_at, way_at}
use Rattle.table.specs.Reading.{due_line, housed, entering, tallied, closing}

-- line n is the one that is due, and its bytes are bs
module _ (entered : ℕ) {n : ℕ} {bs bytes : List ℕ} (due : n ≡ due_line entered) (same : bytes ≡ bs) where
  module _ (room : ℕ) where
    by_way : (r : Result Way Refusal) → r ≡ way_at n bytes → entering entered room bs ≡ followed r (housed entered room)
    by_way r e = sym (ap (λ s. followed s (housed entered room)) (e ∙ (λ i. way_at (due i) (same i))))

    pub enter_refused : {e : Refusal} → Err e ≡ way_at n bytes → entering entered room bs ≡ Err e
    enter_refused {e} h = by_way (Err e) h

    abbrev by_room : Way → Bool → Result Way Refusal
    by_room w t = cond t (Ok w) (Err (TableFull (at (due_line entered) 1)))

    pub enter_full : {w : Way} {p : Position} → Ok w ≡ way_at n bytes → p ≡ at n 1 → (room ≤ entered) ⊎ (256 ≤ entered) → entering entered room bs ≡ Err (TableFull p)
    enter_full {w} {p} h e full = by_way (Ok w) h ∙ ap (by_room w) (none full) ∙ sym (ap (λ q. Err (TableFull q)) (e ∙ ap (λ k. at k 1) due))
      where
        none : (room ≤ entered) ⊎ (256 ≤ entered) → (ltb entered room && ltb entered 256) ≡ false
        none (inl le) = and_left (ltb entered room) (ltb entered 256) (le-ltb entered room le)
        none (inr le) = and_right (ltb entered room) (ltb entered 256) (le-ltb entered 256 le)

    pub enter_housed : {w : Way} → Ok w ≡ way_at n bytes → entered < room → entered < 256 → entering entered room bs ≡ Ok w
    enter_housed {w} h lt few = by_way (Ok w) h ∙ ap (by_room w) (and_from (ltb entered room) (ltb entered 256) (lt-ltb entered room lt) (lt-ltb entered 256 few))

  pub close_refused : {e : Refusal} → Err e ≡ end_at n bytes → Err e ≡ closing entered bs
  close_refused h = ap (λ r. followed r (tallied entered)) (h ∙ (λ i. end_at (due i) (same i)))
