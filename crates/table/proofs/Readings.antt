-- One line after another: a line that is no end is entered, and an end closes the table and must be the last.
use Rattle.std.proofs.Common.{◌≡◌, ℕ, ◌+◌, ◌<◌, Bool, true, false, List, [], ◌∷◌, ◌++◌, length, take, drop, Ok, Err, Result, sym, refl, ap, ◌∙◌, arith}
use Rattle.std.proofs.lemmas.List.{length-map, length-set, length-take-le, take_more_set, map_push, drop-set-lt, drop-drop}
use Rattle.std.proofs.lemmas.Bool.{true≢false, false≢true}
use Rattle.rack.specs.declared.refusal.Refusal.{Refusal}
use Rattle.rack.specs.declared.way.WayNumber.{WayNumber}
use Rattle.rack.specs.Way.{Way, way_of}
use Rattle.text.specs.Frames.{followed, Seen, Seen.start, Seen.way, Seen.end, frame_at, end_of, way_of_frame}
use Rattle.table.specs.declared.table.OpenTable.{OpenTable}
use Rattle.table.specs.Kept.{ways_of}
use Rattle.table.specs.Reading.{due_line, housed, entering, tallied, closing, Body, Body.enters, Body.ends, entered_by, ended_by, body_of, Reading, Reading.stopped, after_end, read_body, is_end}
use Rattle.table.specs.Tables.{Entered, Unentered, Filled, ways_so_far, body_from}

no_end : (entered room : ℕ) (r : Result Seen Refusal) → is_end r ≡ false → followed r (body_of entered room) ≡ entered_by (followed (followed r (way_of_frame (due_line entered))) (housed entered room))
no_end entered room (Ok (start p ds)) e = refl
no_end entered room (Ok (way p ds)) e = refl
no_end entered room (Ok (end p ds)) e = absurd (true≢false e)
no_end entered room (Err x) e = refl

an_end : (entered room : ℕ) (r : Result Seen Refusal) → is_end r ≡ true → followed r (body_of entered room) ≡ ended_by (followed (followed r (end_of (due_line entered))) (tallied entered))
an_end entered room (Ok (start p ds)) e = absurd (false≢true e)
an_end entered room (Ok (way p ds)) e = absurd (false≢true e)
an_end entered room (Ok (end p ds)) e = refl
an_end entered room (Err x) e = absurd (false≢true e)

module _ (room number : ℕ) (ws : List Way) (l : List ℕ) (ls : List (List ℕ)) where
  abbrev by_body : Result Body Refusal → Reading
  by_body r = elim r [ Ok b ↦ elim b [ enters w ↦ read_body room number (ws ++ w ∷ []) ls | ends ↦ after_end number ws ls ] | Err e ↦ stopped e ws ]

  pub entered_line : is_end (frame_at (due_line (length ws)) l) ≡ false → (r : Result Way Refusal) → entering (length ws) room l ≡ r → read_body room number ws (l ∷ ls) ≡ by_body (entered_by r)
  entered_line other r e = ap by_body (no_end (length ws) room (frame_at (due_line (length ws)) l) other ∙ ap entered_by e)

  pub ended_line : is_end (frame_at (due_line (length ws)) l) ≡ true → (r : Result Unit Refusal) → closing (length ws) l ≡ r → read_body room number ws (l ∷ ls) ≡ by_body (ended_by r)
  ended_line last r e = ap by_body (an_end (length ws) room (frame_at (due_line (length ws)) l) last ∙ ap ended_by e)

-- ---- the same of an open table
many : (t : OpenTable) → length (ways_so_far t) ≡ t.entered
many t = length-map (take t.entered t.records.now) way_of ∙ length-take-le t.entered t.records.now t.within

-- `was` is what the table was when the loop began, t what it is, and l the line that is due, with its bytes as they were read
module _ {was t : OpenTable} (filled : Filled was t) (all ls : List (List ℕ)) {l bytes : List ℕ} {n : ℕ} (so : body_from t (l ∷ ls) ≡ body_from was all) (due : n ≡ due_line t.entered) (same : bytes ≡ l) where
  reads : (b : Bool) → b ≡ is_end (frame_at n bytes) → is_end (frame_at (due_line (length (ways_so_far t))) l) ≡ b
  reads b e = sym (e ∙ (λ i. is_end (frame_at (due i) (same i))) ∙ ap (λ k. is_end (frame_at (due_line k) l)) (sym (many t)))

  -- u is what the table is once the line is entered
  module _ (u : OpenTable) (other : false ≡ is_end (frame_at n bytes)) where
    by_entering : (r : Result Way Refusal) → entering t.entered (length t.records.now) l ≡ r → body_from t (l ∷ ls) ≡ by_body (length t.records.now) t.number.0 (ways_so_far t) l ls (entered_by r)
    by_entering r e = entered_line (length t.records.now) t.number.0 (ways_so_far t) l ls (reads false other) r (ap (λ k. entering k (length t.records.now) l) (many t) ∙ e)

    module _ {k : WayNumber} (e : Entered t u l k) where
      more : ways_so_far u ≡ ways_so_far t ++ way_of e.written ∷ []
      more =
          (λ i. ways_of (take (e.count i) (e.contents i)))
          ∙ ap ways_of (take_more_set t.records.now t.entered e.written e.room)
          ∙ map_push way_of (take t.entered t.records.now) e.written

      as_long : length u.records.now ≡ length t.records.now
      as_long = ap length e.contents ∙ length-set t.records.now t.entered e.written

      pub body_more : body_from u ls ≡ body_from was all
      body_more = (λ i. read_body (as_long i) (e.number i).0 (more i) ls) ∙ sym (by_entering (Ok (way_of e.written)) e.line) ∙ so

      pub filled_more : Filled was u
      filled_more =
          let less : t.entered < t.entered + 1 = omega arith in
          record {
            number = e.number ∙ filled.number;
            long = as_long ∙ filled.long;
            behind =
                (λ i. drop (e.count i) (e.contents i))
                ∙ drop-set-lt (t.entered + 1) t.records.now t.entered e.written less
                ∙ sym (drop-drop 1 t.entered t.records.now)
                ∙ ap (drop 1) filled.behind
                ∙ drop-drop 1 t.entered was.records.now
                ∙ ap (λ k. drop k was.records.now) (sym e.count);
          }

    module _ {x : Refusal} (e : Unentered t u l x) where
      pub body_stops : body_from was all ≡ stopped x (ways_so_far u)
      body_stops = sym so ∙ by_entering (Err x) e.line ∙ sym (λ i. stopped x (ways_of (take (e.stays.count i) (e.stays.contents i))))

  module _ (last : true ≡ is_end (frame_at n bytes)) where
    by_closing : (r : Result Unit Refusal) → r ≡ closing t.entered l → body_from t (l ∷ ls) ≡ by_body (length t.records.now) t.number.0 (ways_so_far t) l ls (ended_by r)
    by_closing r e = ended_line (length t.records.now) t.number.0 (ways_so_far t) l ls (reads true last) r (ap (λ k. closing k l) (many t) ∙ sym e)

    pub close_stops : {x : Refusal} → Err x ≡ closing t.entered l → body_from was all ≡ stopped x (ways_so_far t)
    close_stops {x} e = sym so ∙ by_closing (Err x) e
