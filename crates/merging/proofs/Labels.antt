-- The records as links. The end of a way is one label more, so that a way with its end is a list of labels, and an end mark is a
-- branch as any other.
use Rattle.std.proofs.Common.{◌≡◌, ℕ, ◌+◌, ◌<◌, ◌≤◌, Bool, true, false, eqb, List, [], ◌∷◌, ◌++◌, map, length, get_or, Decides, refl, ap, arith}
use Rattle.std.proofs.lemmas.Bool.{false≢true}
use Rattle.std.proofs.lemmas.Bool.Decides.{Decides-like}
use Rattle.rack.specs.declared.part.Literal.{Literal}
use Rattle.rack.specs.Way.{Way}
use Rattle.table.specs.Kept.{same_literal}
use Rattle.table.proofs.KeptWays.{decides_literal}
use Rattle.definitions.specs.Combine.{choose}
use Rattle.working.specs.declared.record.WorkingRecord.{WorkingRecord}
use Rattle.working.specs.declared.record.WorkingRecord.TheVariants as record_of
use Rattle.merging.specs.Trie.{is_mark, branch_at, end_at}
use Rattle.merging.specs.Merging as ways

-- a literal, or the end, or what is of no node
pub data Label : Type 0 where
  lit : Literal → Label
  end : Label
  other : Label

abbrev pub same_label : Label → Label → Bool
same_label (lit l) (lit k) = same_literal l k
same_label end end = true
same_label other other = true
same_label _ _ = false

decides_label : (a b : Label) → Decides (same_label a b) (a ≡ b)
decides_label (lit l) (lit k) = Decides-like _ (ap lit) (λ e. cc) (decides_literal l k)
decides_label (lit l) end = (λ e. absurd (false≢true e), λ e. absurd (cc))
decides_label (lit l) other = (λ e. absurd (false≢true e), λ e. absurd (cc))
decides_label end (lit k) = (λ e. absurd (false≢true e), λ e. absurd (cc))
decides_label end end = (λ e. refl, λ e. refl)
decides_label end other = (λ e. absurd (false≢true e), λ e. absurd (cc))
decides_label other (lit k) = (λ e. absurd (false≢true e), λ e. absurd (cc))
decides_label other end = (λ e. absurd (false≢true e), λ e. absurd (cc))
decides_label other other = (λ e. refl, λ e. refl)

pub label_eq : (a b : Label) → a ≡ b → same_label a b ≡ true
label_eq a b e = (decides_label a b).1 e

pub label_true : (a b : Label) → same_label a b ≡ true → a ≡ b
label_true a b e = (decides_label a b).0 e

pub label_ne : (a b : Label) → (a ≡ b → ⊥) → same_label a b ≡ false
label_ne a b ne = let h = decides_label a b in grind arith

-- labels one after another
abbrev pub Word : Type 0
Word = List Label

abbrev pub rests_of : Label → List Word → List Word
rests_of h ws = ways.rests_by same_label h ws

abbrev pub is_in : Label → List Label → Bool
is_in h gs = ways.is_in same_label h gs

abbrev pub heads_after : List Label → List Word → List Label
heads_after gs ws = ways.heads_after same_label gs ws

abbrev pub heads : List Word → List Label
heads ws = heads_after [] ws

pub record Link : Type 0 where
  pub parent : ℕ
  pub label : Label

abbrev pub link : ℕ → Label → Link
link p l = record { parent = p; label = l }

abbrev pub view : WorkingRecord → Link
view (record_of.Way left) = link 0 other
view (record_of.Branch p l) = link p.0 (lit l)
view (record_of.End n) = link n.0 end

pub view_same : (r s : WorkingRecord) → is_mark s ≡ true → view r ≡ view s → r ≡ s
view_same r (record_of.Way left) m e = absurd (false≢true m)
view_same (record_of.Way left) (record_of.Branch q k) m e = let a = ap (λ x. x.label) e in absurd (cc)
view_same (record_of.Way left) (record_of.End q) m e = let a = ap (λ x. x.label) e in absurd (cc)
view_same (record_of.Branch p l) (record_of.Branch q k) m e = let a = ap (λ x. x.label) e in let b : l ≡ k = cc in (λ i. branch_at (e i).parent (b i))
view_same (record_of.Branch p l) (record_of.End q) m e = let a = ap (λ x. x.label) e in absurd (cc)
view_same (record_of.End p) (record_of.Branch q k) m e = let a = ap (λ x. x.label) e in absurd (cc)
view_same (record_of.End p) (record_of.End q) m e = (λ i. end_at (e i).parent)

-- a way with its end
abbrev pub whole : Way → Word
whole [] = end ∷ []
whole (l ∷ w) = lit l ∷ whole w

abbrev pub wholes : List Way → List Word
wholes ws = map whole ws

abbrev pub views : List WorkingRecord → List Link
views rs = map view rs

-- the labels of the links of node m
abbrev pub child_lits : ℕ → List Link → List Label
child_lits m [] = []
child_lits m (b ∷ bs) = choose (eqb b.parent m) (b.label ∷ child_lits m bs) (child_lits m bs)

-- the rests of the words that begin with p
abbrev pub rests_at : List Label → List Word → List Word
rests_at [] ws = ws
rests_at (h ∷ p) ws = rests_at p (rests_of h ws)

pub rests_push : (p : List Label) (h : Label) (ws : List Word) → rests_at (p ++ h ∷ []) ws ≡ rests_of h (rests_at p ws)
rests_push [] h ws = refl
rests_push (g ∷ p) h ws = rests_push p h (rests_of g ws)

abbrev pub none : Link
none = link 0 other

-- the links hold the beginnings of ws; path k leads to node k
pub record Fits (R : List Link) (path : ℕ → List Label) (ws : List Word) : Type 0 where
  pub root : path 0 ≡ []
  pub step : (i : ℕ) → i < length R → path (i + 1) ≡ path (get_or R i none).parent ++ (get_or R i none).label ∷ []
  pub low : (i : ℕ) → i < length R → (get_or R i none).parent ≤ i
  pub apart : (j k : ℕ) → j ≤ length R → k ≤ length R → path j ≡ path k → j ≡ k
  pub kids : (k : ℕ) → k ≤ length R → child_lits k R ≡ heads (rests_at (path k) ws)

pub record Filled (R : List Link) (ws : List Word) : Type 0 where
  pub path : ℕ → List Label
  pub fits : Fits R path ws
