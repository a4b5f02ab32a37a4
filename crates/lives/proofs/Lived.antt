-- Every life keeps its promise: by induction on the calls, with all that a later call needs to know of an earlier moment.
use Rattle.std.proofs.Common.{◌≡◌, ℕ, zero, suc, ◌+◌, ◌-◌, ◌≤◌, Bool, true, false, ◌&&◌, leb, List, [], ◌∷◌, ◌++◌, length, take, drop, Some, None, Option, sym, refl, ap, ◌∙◌, subst, ap₂, arith}
use Rattle.std.specs.List.{AllByRecursion}
use Rattle.std.proofs.ByRecursion.{All-get_or, All-set, All-take, All-weaker}
use Rattle.std.proofs.lemmas.List.{length-append, length-take-le, take-append-drop}
use Rattle.std.proofs.lemmas.Bool.{and_parts}
use Rattle.rack.specs.declared.refusal.Refusal.{Refusal}
use Rattle.rack.specs.declared.refusal.Refusal.TheVariants.{NoSuchDefinition, MemoryShort}
use Rattle.table.specs.Kept.{kept}
use Rattle.definitions.specs.declared.operand.Operand.{Operand}
use Rattle.definitions.specs.declared.operand.Definition.{Definition}
use Rattle.definitions.specs.Operands.{reach}
use Rattle.definitions.specs.Combine.{State, choose, counted, combining}
use Rattle.definitions.specs.Sound.{Legal, Sound}
use Rattle.working.specs.Gather.{needed}
use Rattle.working.specs.Translation.{Outcome.written, Outcome.refused, limited}
use Rattle.methods.specs.Methods.{rule_of}
use Rattle.script.specs.Script.{known}
use Rattle.script.specs.Combination.{Reply.done, Reply.told, or_limit}
use Rattle.script.proofs.Soundness.{empty_sound, known_legal}
use Rattle.algebra.specs.Algebra.{Algebra, Lattice, Complemented, EveryAlgebra}
use Rattle.algebra.specs.Worth.{Settings, applied, worth}
use Rattle.evaluate.specs.Evaluation.{settings_of}
use Rattle.laws.specs.Laws.{ComesTo}
use Rattle.laws.proofs.Shown.{combine_right, translation_right}
use Rattle.laws.proofs.Values.{Extends, extends_legal, worth_kept}
use Rattle.laws.proofs.Combined.{Each}
use Rattle.lives.specs.Moments.{OpenDelivery, Call, Call.translate, Call.combine, Call.evaluate, Call.evaluate_elsewhere, Call.begin, Call.next, Call.close, Event, Event.translated, Event.combined, Event.evaluated, Event.evaluated_elsewhere, Event.begun, Event.gone_on, Event.closed, Event.struck, Event.turned_down, Moment, then_on, no_delivery, delivery_at, without}
use Rattle.lives.specs.Life.{Refused, Life, Life.opening, Life.translating, Life.combining as combining_two, Life.evaluating, Life.evaluating_elsewhere, Life.beginning, Life.going_on, Life.closing, Life.striking, Life.refusing}
use Rattle.lives.specs.Promise.{EventRight, Promise, EveryLife}
use Rattle.lives.proofs.Ranged.{DefinitionInRange, Fits, fit_combining, fit_rule, kept_ranged}
use Rattle.lives.proofs.Delivered.{evaluate_known, reach_legal, legal_reach, Running, running_begun, running_on, closed_reads, closed_ends}

-- ---- what an accepted or a refused call tells
nonsense : {X : Type 0} → ◌≡◌ {A = ℕ} 0 1 → X
nonsense z = absurd (omega arith)

-- an outcome that is written comes from what the method wrote
wrote_by : (o : Option State) (ds : List Definition) (t : Bool) (x : Operand) (k : ℕ) (all : List Definition) → choose t (limited ds o) (refused MemoryShort) ≡ written x k all
    → (o ≡ Some (record { answer = x; all = all })) × (length all - length ds ≡ k)
wrote_by (Some st) ds true x k all h =
    let p : st.answer ≡ x = cc in
    let q : st.all ≡ all = cc in
    let n : length st.all - length ds ≡ k = cc in
    (λ i. Some (record { answer = p i; all = q i }), ap (λ (l : List Definition). length l - length ds) (sym q) ∙ n)
wrote_by None ds true x k all h = let z : ◌≡◌ {A = ℕ} 0 1 = cc in nonsense z
wrote_by o ds false x k all h = let z : ◌≡◌ {A = ℕ} 0 1 = cc in nonsense z

-- a combine that is accepted knew both operands
combined_by : (t : Bool) (ds : List Definition) (o : Option State) (st : State) → choose t (or_limit ds o) (told NoSuchDefinition ds) ≡ done st → (t ≡ true) × (o ≡ Some st)
combined_by true ds (Some su) st h = let e : su ≡ st = cc in (refl, ap (λ (u : State). Some u) e)
combined_by true ds None st h = let z : ◌≡◌ {A = ℕ} 0 1 = cc in nonsense z
combined_by false ds o st h = let z : ◌≡◌ {A = ℕ} 0 1 = cc in nonsense z

-- one that is refused leaves the definitions
left_by : (t : Bool) (ds : List Definition) (o : Option State) (e : Refusal) (after : List Definition) → choose t (or_limit ds o) (told NoSuchDefinition ds) ≡ told e after → after ≡ ds
left_by true ds (Some su) e after h = let z : ◌≡◌ {A = ℕ} 0 1 = cc in nonsense z
left_by true ds None e after h = cc
left_by false ds o e after h = cc

same_after : (A : Algebra) (limit : ℕ) (m : Moment A.Value) (c : Call A.Value) (e : Refusal) (after : List Definition) → Refused A limit m c e after → after ≡ m.definitions
same_after A limit m (translate method ws records) e after r = r.2
same_after A limit m (combine o a b) e after r =
    let ds = m.definitions in
    left_by (known (length ds) a && known (length ds) b) ds (combining (counted limit) o a b ds) e after r.1
same_after A limit m (evaluate x settings elements) e after r = r.1
same_after A limit m (evaluate_elsewhere x settings elements) e after r = r.1
same_after A limit m (begin x buffer) e after r = r.1
same_after A limit m (next i buffer) e after r = r.2
same_after A limit m (close i buffer) e after r = r.2

all_without : (P : OpenDelivery → Type 0) (ps : List OpenDelivery) (i : ℕ) → AllByRecursion P ps → AllByRecursion P (without ps i)
all_without P [] i a = tt
all_without P (p ∷ ps) zero a = a.1
all_without P (p ∷ ps) (suc i) a = (a.0, all_without P ps i a.1)

extends : {A : Algebra} {s : Settings A} {ds : List Definition} {n : ℕ} {v : A.Value} {st : State} → ComesTo A s ds n v st → Extends ds st.all
extends c = record { rest = c.rest; grows = c.grows }

module _ (A : Algebra) (s : Settings A) where
  -- the operands that an event tells of are legal
  abbrev Named : ℕ → Event A.Value → Type 0
  Named n (translated ws x added before after) = Legal n x
  Named n (combined o a b x) = Legal n a × Legal n b × Legal n x
  Named n (evaluated x settings answer operations) = Legal n x
  Named n (evaluated_elsewhere x operations) = Unit {0}
  Named n (begun x line) = Unit {0}
  Named n (gone_on x line) = Unit {0}
  Named n (closed x lines) = Legal n x
  Named n (struck x lines) = Unit {0}
  Named n (turned_down c e before after) = Unit {0}

  abbrev Told : List Definition → Event A.Value → Type 0
  Told ds e = Named (length ds) e × EventRight A s ds e

  -- what was right stays right as definitions are added
  told_more : {ds es : List Definition} → Extends ds es → (e : Event A.Value) → Told ds e → Told es e
  told_more x (translated ws y added before after) f = (
    extends_legal y x f.0,
    record { value = worth_kept A s y x f.0 ∙ f.1.value; new = f.1.new; grew = f.1.grew; by_answer = f.1.by_answer; few = f.1.few },
  )
  told_more x (combined o a b y) f = (
    (extends_legal a x f.0.0, extends_legal b x f.0.1, extends_legal y x f.0.2),
    worth_kept A s y x f.0.2 ∙ f.1 ∙ sym (ap₂ (applied A o) (worth_kept A s a x f.0.0) (worth_kept A s b x f.0.1)),
  )
  told_more x (evaluated y settings answer operations) f = (
    extends_legal y x f.0,
    record { value = f.1.value ∙ sym (worth_kept A (settings_of A settings) y x f.0); one_each = f.1.one_each },
  )
  told_more x (evaluated_elsewhere y operations) f = f
  told_more x (begun y line) f = f
  told_more x (gone_on y line) f = f
  told_more x (closed y lines) f = (extends_legal y x f.0, record { end_reads = f.1.end_reads; value = f.1.value ∙ sym (worth_kept A s y x f.0) })
  told_more x (struck y lines) f = f
  told_more x (turned_down c e before after) f = f

  -- what is known at a moment
  record Known (limit : ℕ) (m : Moment A.Value) : Type 0 where
    sound : Sound m.definitions
    within : length m.definitions ≤ counted (counted limit)
    ranged : AllByRecursion DefinitionInRange m.definitions
    events : AllByRecursion (Told m.definitions) m.history
    running : AllByRecursion (Running m.definitions) m.deliveries

  -- the definitions grow, and one event more is told
  grown : (limit : ℕ) (m : Moment A.Value) (st : State) (e : Event A.Value) → Known limit m → m.deliveries ≡ [] → Extends m.definitions st.all → Sound st.all → Fits (counted limit) st → Told st.all e
      → Known limit (then_on m st.all m.deliveries e)
  grown limit m st e k none x S f t = record {
    sound = S;
    within = f.within;
    ranged = f.ranged;
    events = (t, All-weaker (Told m.definitions) (Told st.all) (told_more x) m.history k.events);
    running = subst (AllByRecursion (Running st.all)) (sym none) tt;
  }

  -- they stay
  stayed : (limit : ℕ) (m : Moment A.Value) (ps : List OpenDelivery) (e : Event A.Value) → Known limit m → AllByRecursion (Running m.definitions) ps → Told m.definitions e
      → Known limit (then_on m m.definitions ps e)
  stayed limit m ps e k a t = record { sound = k.sound; within = k.within; ranged = k.ranged; events = (t, k.events); running = a }

  -- the definitions that an operand needs give it the value that all give it
  needed_worth : (ds : List Definition) (x : Operand) → Legal (length ds) x → worth A s (take (reach x) ds) x ≡ worth A s ds x
  needed_worth ds x k =
      let long : length (take (reach x) ds) ≡ reach x = length-take-le (reach x) ds (reach_legal (length ds) x k) in
      sym (worth_kept A s x (record { rest = drop (reach x) ds; grows = sym (take-append-drop (reach x) ds) }) (subst (λ n. Legal n x) (sym long) (legal_reach (length ds) x k)))

  module _ (L : Lattice A) (C : Complemented A) (limit : ℕ) where
    lived : {m : Moment A.Value} → Life A limit m → Known limit m
    lived opening = record { sound = empty_sound; within = omega arith; ranged = tt; events = tt; running = tt }
    lived (translating {m = m} l method ws records x added all w none e) =
        let k = lived l in
        let ds = m.definitions in
        let st : State = record { answer = x; all = all } in
        let by = wrote_by (rule_of method (counted limit) (kept ws) ds) ds (leb (needed (kept ws)) records) x added all e in
        let c = translation_right A L C method (counted limit) ws ds st k.sound by.0 s in
        let f = subst (Each (Fits (counted limit))) by.0 (fit_rule (counted limit) method (kept ws) (kept_ranged ws w) ds k.within k.ranged) in
        let long : length all ≡ length ds + length c.rest = ap length c.grows ∙ length-append ds c.rest in
        grown limit m st (translated ws x added ds all) k none (extends c) c.sound f
        (c.legal, record { value = c.value; new = c.rest; grew = c.grows; by_answer = omega (arith, by.1); few = omega (arith, by.1, c.few) })
    lived (combining_two {m = m} l o a b st ra rb none e) =
        let k = lived l in
        let ds = m.definitions in
        let by = combined_by (known (length ds) a && known (length ds) b) ds (combining (counted limit) o a b ds) st e in
        let both = and_parts (known (length ds) a) (known (length ds) b) by.0 in
        let la = known_legal (length ds) a both.0 in
        let lb = known_legal (length ds) b both.1 in
        let c = combine_right A L (counted limit) o a b ds st k.sound la lb by.1 s in
        let f = subst (Each (Fits (counted limit))) by.1 (fit_combining (counted limit) o a b ra rb ds k.within k.ranged) in
        let x = extends c in
        grown limit m st (combined o a b st.answer) k none x c.sound f
        ((extends_legal a x la, extends_legal b x lb, c.legal), c.value ∙ sym (ap₂ (applied A o) (c.others_stay a la) (c.others_stay b lb)))
    lived (evaluating {m = m} l x settings elements answer operations e v n) =
        let k = lived l in
        stayed limit m m.deliveries (evaluated x settings answer operations) k k.running (evaluate_known m.definitions x (length settings) elements e, record { value = v; one_each = n })
    lived (evaluating_elsewhere {m = m} l x settings elements operations e n) =
        let k = lived l in
        stayed limit m m.deliveries (evaluated_elsewhere x operations) k k.running (tt, n)
    lived (beginning {m = m} l x buffer after n r e left) =
        let k = lived l in
        stayed limit m _ (begun x (take n after)) k (running_begun m.definitions x buffer after n r e left, k.running) (tt, tt)
    lived (going_on {m = m} l i buffer after n inside e left) =
        let k = lived l in
        let g = All-get_or (Running m.definitions) m.deliveries i no_delivery inside k.running in
        stayed limit m _ (gone_on (delivery_at m i).operand (take n after)) k (All-set (Running m.definitions) m.deliveries i _ (running_on m.definitions (delivery_at m i) g buffer after n e left) k.running) (tt, tt)
    lived (closing {m = m} l i buffer after n inside e left) =
        let k = lived l in
        let ds = m.definitions in
        let p = delivery_at m i in
        let x = p.operand in
        let g = All-get_or (Running ds) m.deliveries i no_delivery inside k.running in
        let reads = closed_reads ds p g buffer after n e left (All-take DefinitionInRange (reach x) ds k.ranged) in
        stayed limit m (without m.deliveries i) (closed x (p.lines ++ take n after ∷ [])) k (all_without (Running ds) m.deliveries i k.running)
        (g.legal, record { end_reads = closed_ends ds p g buffer after n left; value = ap (λ (es : List Definition). worth A s es x) reads ∙ needed_worth ds x g.legal })
    lived (striking {m = m} l i inside) =
        let k = lived l in
        stayed limit m (without m.deliveries i) (struck (delivery_at m i).operand (delivery_at m i).lines) k (all_without (Running m.definitions) m.deliveries i k.running) (tt, tt)
    lived (refusing {m = m} l c e after r) =
        let k = lived l in
        let same = same_after A limit m c e after r in
        let P : List Definition → Type 0 = λ es. Known limit (then_on m es m.deliveries (turned_down c e m.definitions es)) in
        subst P (sym same) (stayed limit m m.deliveries (turned_down c e m.definitions m.definitions) k k.running (tt, refl))

    pub promised : (m : Moment A.Value) → Life A limit m → Promise A s limit m
    promised m l =
        let k = lived l in
        record {
          sound = k.sound;
          within_limit = omega (arith, k.within);
          at_most_4096 = omega (arith, k.within);
          events = All-weaker (Told m.definitions) (EventRight A s m.definitions) (λ e t. t.1) m.history k.events;
        }

pub every_life : EveryAlgebra EveryLife
every_life A L C limit m l s = promised A s L C limit m l
