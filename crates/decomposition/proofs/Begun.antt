-- What a list of ways begins with: an empty way decides before the first part does.
use Rattle.std.proofs.Common.{◌≡◌, Bool, true, false, ◌||◌, List, [], ◌∷◌, slice_get, Some, None, Continue, Break, MatchOption, is_none, option_copied, Option, Bor, sym, refl, ap, ◌∙◌}
use Rattle.std.specs.List.{list_any}
use Rattle.std.proofs.lemmas.Bool.{false≢true}
use Rattle.rack.specs.declared.part.Literal.{Literal}
use Rattle.rack.specs.Way.{Way}
use Rattle.definitions.specs.declared.operand.Operand.TheVariants.{Always}
use Rattle.definitions.specs.Combine.{choose}
use Rattle.working.specs.declared.record.WorkingRecord.{WorkingRecord}
use Rattle.working.specs.Records.{way_in, ways_in, first_of, is_empty, has_empty}
use Rattle.decomposition.specs.Decomposition.{start_of}

-- whether a record has no literal left
abbrev pub spent : WorkingRecord → Bool
spent r = is_none (first_of (way_in r))

emptiness : (w : Way) → is_none (first_of w) ≡ is_empty w
emptiness [] = refl
emptiness (l ∷ w) = refl

pub any_spent : (rs : List WorkingRecord) → list_any spent rs ≡ has_empty (ways_in rs)
any_spent [] = refl
any_spent (r ∷ rs) = λ i. emptiness (way_in r) i || any_spent rs i

pub begins_empty : (ws : List Way) → has_empty ws ≡ true → Break Always ≡ start_of ws
begins_empty [] e = absurd (false≢true e)
begins_empty ([] ∷ ws) e = refl
begins_empty ((l ∷ w) ∷ ws) e = sym (ap (λ t. choose t (Break Always) (Continue l.part)) e)

-- the first literal of the first record, where no way is empty
begins_first : (w : Way) (ws : List Way) (l : Literal) → has_empty (w ∷ ws) ≡ false → first_of w ≡ Some l → Continue l.part ≡ start_of (w ∷ ws)
begins_first [] ws l e f = absurd (cc)
begins_first (m ∷ w) ws l e f =
    let same : m ≡ l = cc in
    sym (ap (λ t. choose t (Break Always) (Continue m.part)) e ∙ ap (λ n. Continue n.part) same)

-- o is the first record, and r what its first literal is
pub begins_part : (rs : List WorkingRecord) (o : Option (Bor WorkingRecord)) {r : Option Literal} {l : Literal} → has_empty (ways_in rs) ≡ false → option_copied o ≡ slice_get rs 0 → MatchOption o (r ≡ None) (λ x. r ≡ first_of (way_in x.now)) → r ≡ Some l → Continue l.part ≡ start_of (ways_in rs)
begins_part rs None e f g h = absurd (cc)
begins_part [] (Some x) e f g h = absurd (cc)
begins_part (y ∷ rs) (Some x) {l = l} e f g h = begins_first (way_in y) (ways_in rs) l e (cc)
