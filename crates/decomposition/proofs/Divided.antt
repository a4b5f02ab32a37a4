-- A list of ways is divided one record at a time: those that hold a literal go to the room without it, and the others to the front.
use Rattle.std.proofs.Common.{◌≡◌, ℕ, ◌+◌, ◌<◌, ◌≤◌, Bool, true, false, cond, not, List, [], ◌∷◌, ◌++◌, map, length, get_or, take, set, filter, count_by, sym, refl, ap, ◌∙◌, add-zero, arith}
use Rattle.std.proofs.lemmas.List.{append-nil, get_or-drop, get_or_default, length-set, map-append, map_push, take_more_set, take_all, length-map, length-take-le}
use Rattle.std.proofs.lemmas.List.Elements.{filter_more}
use Rattle.std.proofs.lemmas.List.Filters.{FiltersInPlace, FiltersInPlace-all, FiltersInPlace-more_no, FiltersInPlace-more_set}
use Rattle.std.proofs.lemmas.List.Sums.{length-filter, count_by_more_yes, sum_by-take-le}
use Rattle.std.proofs.lemmas.Simd.{map-map}
use Rattle.rack.specs.declared.part.Literal.{Literal}
use Rattle.rack.specs.Way.{Way}
use Rattle.table.specs.Kept.{holds, literals}
use Rattle.working.specs.declared.record.WorkingRecord.{WorkingRecord}
use Rattle.working.specs.Records.{way_in, ways_in, lacking}
use Rattle.decomposition.specs.Decomposition.{under, beside}
use Rattle.decomposition.proofs.Parted.{under_small}

-- whether a record holds h; whether it does not; and its way without h
abbrev takes : Literal → WorkingRecord → Bool
takes h r = holds h (way_in r)

abbrev spares : Literal → WorkingRecord → Bool
spares h r = not (takes h r)

abbrev without : Literal → WorkingRecord → Way
without h r = lacking h (way_in r)

filter_ways : (p : Way → Bool) (rs : List WorkingRecord) → ways_in (filter (λ r. p (way_in r)) rs) ≡ filter p (ways_in rs)
filter_ways p [] = refl
filter_ways p (r ∷ rs) = by (filter_ways p rs) (p (way_in r))
  where
    left : List WorkingRecord
    left = filter (λ x. p (way_in x)) rs

    by : ways_in left ≡ filter p (ways_in rs) → (t : Bool) → ways_in (cond t (r ∷ left) left) ≡ cond t (way_in r ∷ filter p (ways_in rs)) (filter p (ways_in rs))
    by e true = ap (λ ws. way_in r ∷ ws) e
    by e false = e

ways_under : (h : Literal) (rs : List WorkingRecord) → map (without h) (filter (takes h) rs) ≡ under h (ways_in rs)
ways_under h rs = sym (map-map (lacking h) way_in (filter (takes h) rs)) ∙ ap (map (lacking h)) (filter_ways (holds h) rs)

-- of the first i of xs, those that hold h are the first n of the room, and the others are left as the first k of ys
pub record Divides (h : Literal) (xs ys room : List WorkingRecord) (n k i : ℕ) : Type 0 where
  pub enough : literals (ways_in xs) ≤ length room
  pub fits : n ≤ length room
  pub held : ways_in (take n room) ≡ map (without h) (filter (takes h) (take i xs))
  pub left : FiltersInPlace (spares h) xs ys k i

module _ {h : Literal} {xs ys room : List WorkingRecord} {n k i : ℕ} (so : Divides h xs ys room n k i) where
  module _ (d : WorkingRecord) (inside : i < length xs) where
    abbrev here : WorkingRecord
    here = get_or ys i d

    lt : i < length ys
    lt = omega (arith, so.left.long)

    -- what is read at i was there at the start
    unread : get_or xs i d ≡ here
    unread = rw add-zero at (sym (get_or-drop i xs 0 d) ∙ ap (λ s. get_or s 0 d) (sym so.left.rest) ∙ get_or-drop i ys 0 d)

    more : (t : Bool) → t ≡ takes h here → map (without h) (filter (takes h) (take (i + 1) xs)) ≡ map (without h) (filter (takes h) (take i xs)) ++ map (without h) (cond t (here ∷ []) [])
    more t e =
        let test : takes h (get_or xs i d) ≡ t = ap (takes h) unread ∙ sym e in
        ap (map (without h)) (filter_more (takes h) xs i d inside) ∙ map-append (without h) (filter (takes h) (take i xs)) _
        ∙ (λ j. map (without h) (filter (takes h) (take i xs)) ++ map (without h) (cond (test j) (unread j ∷ []) []))

    -- each way that goes there loses a literal, so that the room has a place for it
    pub has_room : true ≡ takes h here → n < length room
    has_room e =
        let here_too : count_by (takes h) (take (i + 1) xs) ≡ count_by (takes h) (take i xs) + 1 = count_by_more_yes (takes h) xs i d inside (ap (takes h) unread ∙ sym e) in
        let all : count_by (takes h) (take (i + 1) xs) ≤ count_by (takes h) xs = sum_by-take-le (λ r. cond (takes h r) 1 0) xs (i + 1) in
        omega (
          arith,
          so.enough,
          under_small h (ways_in xs),
          ap length (ways_under h xs),
          ap length so.held,
          length-map (take n room) way_in,
          length-take-le n room so.fits,
          length-map (filter (takes h) xs) (without h),
          length-map (filter (takes h) (take i xs)) (without h),
          length-filter (takes h) xs,
          length-filter (takes h) (take i xs),
        )

    pub taken : true ≡ takes h here → (r : WorkingRecord) → way_in r ≡ without h here → Divides h xs ys (set room n r) (n + 1) k (i + 1)
    taken e r made =
        let le = has_room e in
        record {
          enough = omega (arith, so.enough, length-set room n r);
          fits = omega (arith, le, length-set room n r);
          held = ap ways_in (take_more_set room n r le) ∙ map_push way_in (take n room) r ∙ (λ j. so.held j ++ made j ∷ []) ∙ sym (more true e);
          left = FiltersInPlace-more_no so.left lt (ap not (sym e)) (get_or_default ys i d here lt);
        }

    pub passed : false ≡ takes h here → Divides h xs (set ys k here) room n (k + 1) (i + 1)
    passed e =
        record {
          enough = so.enough;
          fits = so.fits;
          held = so.held ∙ sym (more false e ∙ append-nil (map (without h) (filter (takes h) (take i xs))));
          left = FiltersInPlace-more_set so.left lt (ap not (sym e)) (get_or_default ys i d here lt);
        }

  module _ (all : length xs ≤ i) where
    pub all_held : ways_in (take n room) ≡ under h (ways_in xs)
    all_held = so.held ∙ ap (λ s. map (without h) (filter (takes h) s)) (take_all i xs all) ∙ ways_under h xs

    pub all_left : ways_in (take k ys) ≡ beside h (ways_in xs)
    all_left = ap ways_in (FiltersInPlace-all so.left all) ∙ filter_ways (λ w. not (holds h w)) xs
