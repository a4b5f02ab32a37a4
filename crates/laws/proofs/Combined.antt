-- What combining does: it adds one definition at most, and at the end; the definitions stay sound; and the answer is worth the meet or join.
use Rattle.std.proofs.Common.{◌≡◌, ℕ, ◌+◌, ◌<◌, ◌≤◌, Bool, true, false, ltb, List, [], ◌∷◌, ◌++◌, length, get_or, Some, None, Option, sym, refl, ap, ◌∙◌, arith}
use Rattle.std.proofs.lemmas.List.{length_push, get_or_at}
use Rattle.std.proofs.lemmas.Bool.Decides.{not_from_Decides}
use Rattle.definitions.specs.declared.operand.Operator.{Operator}
use Rattle.definitions.specs.declared.operand.Operator.TheVariants.{Meet, Join}
use Rattle.definitions.specs.declared.operand.Operand.{Operand}
use Rattle.definitions.specs.declared.operand.Operand.TheVariants.{Never, Always}
use Rattle.definitions.specs.declared.operand.Definition.{Definition}
use Rattle.definitions.specs.Operands.{numbered, same_operand}
use Rattle.definitions.specs.Combine.{State, Writing, give, onward, choose, simply, place_in, counted, or_add, or_define, combining}
use Rattle.definitions.specs.Sound.{Legal, Constant, blank, Sound}
use Rattle.definitions.proofs.Alike.{decides_operand}
use Rattle.algebra.specs.Algebra.{Algebra, Lattice}
use Rattle.algebra.specs.Worth.{Settings, applied, operand_worth, worth}
use Rattle.laws.proofs.Lattices.{join_bottom_left, meet_top_left, meet_bottom_left, meet_bottom, join_top_left, join_top, meet_same, join_same}
use Rattle.laws.proofs.Values.{Extends, extends_self, worth_kept, worth_at}
use Rattle.laws.proofs.Pushed.{Finds, finds, sound_push}
use Rattle.laws.proofs.Weights.{weigh, alive, weigh_plain, weigh_alive, alive_one, not_constant}

-- what holds of the outcome of a writing, if there is one
abbrev pub Each : (State → Type 0) → Option State → Type 0
Each P None = Unit {0}
Each P (Some st) = P st

pub each_onward : {P : State → Type 0} (Q : State → Type 0) (r : Option State) (f : Operand → Writing) → Each P r → ((st : State) → P st → Each Q (f st.answer st.all)) → Each Q (onward r f)
each_onward Q None f p k = tt
each_onward Q (Some st) f p k = k st p

pub each_map : {P : State → Type 0} (Q : State → Type 0) (r : Option State) → Each P r → ((st : State) → P st → Q st) → Each Q r
each_map Q None p k = tt
each_map Q (Some st) p k = k st p

-- st comes from ds by at most n more definitions; its answer is legal and worth v
pub record Grown (A : Algebra) (s : Settings A) (ds : List Definition) (n : ℕ) (v : A.Value) (st : State) : Type 0 where
  pub ext : Extends ds st.all
  pub sound : Sound st.all
  pub legal : Legal (length st.all) st.answer
  pub value : worth A s st.all st.answer ≡ v
  pub few : length st.all ≤ length ds + n

-- a meet is alive only where both operands are
abbrev Live : Operator → Operand → Operand → Operand → Type 0
Live Meet a b x = (alive x ≤ alive a) × (alive x ≤ alive b)
Live Join a b x = Unit {0}

-- what the meet or join of a and b makes: no definition where either is a constant
pub record Made (A : Algebra) (s : Settings A) (ds : List Definition) (o : Operator) (a b : Operand) (st : State) : Type 0 where
  pub grown : Grown A s ds 1 (applied A o (worth A s ds a) (worth A s ds b)) st
  pub few_first : length st.all ≤ length ds + weigh a
  pub few_second : length st.all ≤ length ds + weigh b
  pub light : weigh st.answer ≤ weigh a + weigh b
  pub live : Live o a b st.answer

module _ (A : Algebra) (L : Lattice A) (s : Settings A) where
  pub give_grown : (x : Operand) (ds : List Definition) (n : ℕ) (v : A.Value) → Sound ds → Legal (length ds) x → worth A s ds x ≡ v → Grown A s ds n v (record { answer = x; all = ds })
  give_grown x ds n v S k e = record { ext = extends_self ds; sound = S; legal = k; value = e; few = omega arith }

  -- x needs no definition: it is worth the meet or join of a and b by any values
  record Simple (n : ℕ) (o : Operator) (a b x : Operand) : Type 0 where
    legal : Legal n a → Legal n b → Legal n x
    value : (vs : List A.Value) → operand_worth A s vs x ≡ applied A o (operand_worth A s vs a) (operand_worth A s vs b)
    light : weigh x ≤ weigh a + weigh b
    live : Live o a b x

  -- what the first two rules say of a and b
  Right : ℕ → Operator → Operand → Operand → Option Operand → Type 0
  Right n o a b (Some x) = Simple n o a b x
  Right n o a b None = (Constant a → ⊥) × (Constant b → ⊥) × (a ≡ b → ⊥)

  right : (n : ℕ) (o : Operator) (a b x : Operand) (rest : Option Operand) (t : Bool) → (t ≡ true → Simple n o a b x) → (t ≡ false → Right n o a b rest) → Right n o a b (choose t (Some x) rest)
  unfolding Right
  right n o a b x rest true h r = h refl
  right n o a b x rest false h r = r refl

  simply_right : (n : ℕ) (o : Operator) (a b : Operand) → Right n o a b (simply o a b)
  unfolding Right
  simply_right n Meet a b =
      right n Meet a b Never _ (same_operand a Never) (λ e. let q = (decides_operand a Never).0 e in record { legal = λ k l. tt; value = λ vs. sym (ap (λ z. A.meet (operand_worth A s vs z) (operand_worth A s vs b)) q ∙ meet_bottom_left A L _); light = omega arith; live = (omega arith, omega arith) }) (λ na.
      right n Meet a b Never _ (same_operand b Never) (λ e. let q = (decides_operand b Never).0 e in record { legal = λ k l. tt; value = λ vs. sym (ap (λ z. A.meet (operand_worth A s vs a) (operand_worth A s vs z)) q ∙ meet_bottom A L _); light = omega arith; live = (omega arith, omega arith) }) (λ nb.
      right n Meet a b b _ (same_operand a Always) (λ e. let q = (decides_operand a Always).0 e in record { legal = λ k l. l; value = λ vs. sym (ap (λ z. A.meet (operand_worth A s vs z) (operand_worth A s vs b)) q ∙ meet_top_left A L _); light = omega arith; live = (omega (arith, alive_one b, ap alive q), omega arith) }) (λ aa.
      right n Meet a b a _ (same_operand b Always) (λ e. let q = (decides_operand b Always).0 e in record { legal = λ k l. k; value = λ vs. sym (ap (λ z. A.meet (operand_worth A s vs a) (operand_worth A s vs z)) q ∙ L.meet_top _); light = omega arith; live = (omega arith, omega (arith, alive_one a, ap alive q)) }) (λ ab.
      right n Meet a b a None (same_operand a b) (λ e. let q = (decides_operand a b).0 e in record { legal = λ k l. k; value = λ vs. sym (meet_same A L _) ∙ ap (λ z. A.meet (operand_worth A s vs a) (operand_worth A s vs z)) q; light = omega arith; live = (omega arith, omega (arith, ap alive q)) }) (λ ne.
      (not_constant a na aa, not_constant b nb ab, not_from_Decides _ (decides_operand a b) ne))))))
  simply_right n Join a b =
      right n Join a b Always _ (same_operand a Always) (λ e. let q = (decides_operand a Always).0 e in record { legal = λ k l. tt; value = λ vs. sym (ap (λ z. A.join (operand_worth A s vs z) (operand_worth A s vs b)) q ∙ join_top_left A L _); light = omega arith; live = tt }) (λ aa.
      right n Join a b Always _ (same_operand b Always) (λ e. let q = (decides_operand b Always).0 e in record { legal = λ k l. tt; value = λ vs. sym (ap (λ z. A.join (operand_worth A s vs a) (operand_worth A s vs z)) q ∙ join_top A L _); light = omega arith; live = tt }) (λ ab.
      right n Join a b b _ (same_operand a Never) (λ e. let q = (decides_operand a Never).0 e in record { legal = λ k l. l; value = λ vs. sym (ap (λ z. A.join (operand_worth A s vs z) (operand_worth A s vs b)) q ∙ join_bottom_left A L _); light = omega arith; live = tt }) (λ na.
      right n Join a b a _ (same_operand b Never) (λ e. let q = (decides_operand b Never).0 e in record { legal = λ k l. k; value = λ vs. sym (ap (λ z. A.join (operand_worth A s vs a) (operand_worth A s vs z)) q ∙ L.join_bottom _); light = omega arith; live = tt }) (λ nb.
      right n Join a b a None (same_operand a b) (λ e. let q = (decides_operand a b).0 e in record { legal = λ k l. k; value = λ vs. sym (join_same A L _) ∙ ap (λ z. A.join (operand_worth A s vs a) (operand_worth A s vs z)) q; light = omega arith; live = tt }) (λ ne.
      (not_constant a na aa, not_constant b nb ab, not_from_Decides _ (decides_operand a b) ne))))))

  module _ (limit : ℕ) (o : Operator) (a b : Operand) (ds : List Definition) (S : Sound ds) (ka : Legal (length ds) a) (kb : Legal (length ds) b) where
    new : Definition
    new = record { operator = o; first = a; second = b }

    -- a definition stands at place i of es
    defined_grown : (es : List Definition) → Extends ds es → Sound es → length es ≤ length ds + 1 → (i : ℕ) → i < length es → get_or es i blank ≡ new
        → Grown A s ds 1 (applied A o (worth A s ds a) (worth A s ds b)) (record { answer = numbered (i + 1); all = es })
    unfolding new
    defined_grown es x T few i h e = record {
      ext = x;
      sound = T;
      legal = (omega arith, omega arith);
      value = worth_at A s es i h (T.earlier i h).0 (T.earlier i h).1
          ∙ ap (λ d. applied A d.operator (worth A s es d.first) (worth A s es d.second)) e
          ∙ (λ k. applied A o (worth_kept A s a x ka k) (worth_kept A s b x kb k));
      few = few;
    }

    or_add_made : (Constant a → ⊥) → (Constant b → ⊥) → (a ≡ b → ⊥) → (r : Option ℕ) → Finds new ds r → Each (Made A s ds o a b) (or_add limit new r ds)
    unfolding new
    or_add_made na nb ne (Some i) f = record {
      grown = defined_grown ds (extends_self ds) S (omega arith) i f.0 f.1;
      few_first = omega arith;
      few_second = omega arith;
      light = omega (arith, weigh_plain a na);
      live = alive_made o;
    }
      where
        alive_made : (p : Operator) → Live p a b (numbered (i + 1))
        alive_made Meet = (omega (arith, weigh_plain a na, weigh_alive a), omega (arith, weigh_plain b nb, weigh_alive b))
        alive_made Join = tt
    or_add_made na nb ne None f = go (ltb (length ds) (counted limit)) refl
      where
        alive_made : (p : Operator) → Live p a b (numbered (length ds + 1))
        alive_made Meet = (omega (arith, weigh_plain a na, weigh_alive a), omega (arith, weigh_plain b nb, weigh_alive b))
        alive_made Join = tt

        go : (t : Bool) → ltb (length ds) (counted limit) ≡ t → Each (Made A s ds o a b) (choose t (give (numbered (length ds + 1)) (ds ++ new ∷ [])) None)
        go false e = tt
        go true e =
            let long = length_push ds new in
            record {
              grown = defined_grown (ds ++ new ∷ []) (record { rest = new ∷ []; grows = refl }) (sound_push ds new S f ne ka kb na nb) (omega arith) (length ds) (omega arith) (get_or_at ds new [] blank (length ds) refl);
              few_first = omega (arith, weigh_plain a na);
              few_second = omega (arith, weigh_plain b nb);
              light = omega (arith, weigh_plain a na);
              live = alive_made o;
            }

    or_define_made : (r : Option Operand) → Right (length ds) o a b r → Each (Made A s ds o a b) (or_define limit r new ds)
    unfolding Right
    or_define_made (Some x) q = record {
      grown = give_grown x ds 1 (applied A o (worth A s ds a) (worth A s ds b)) S (q.legal ka kb) (q.value _);
      few_first = omega arith;
      few_second = omega arith;
      light = q.light;
      live = q.live;
    }
    or_define_made None q = or_add_made q.0 q.1 q.2 (place_in new ds) (finds new ds)

    pub combine_made : Each (Made A s ds o a b) (combining limit o a b ds)
    unfolding new
    combine_made = or_define_made (simply o a b) (simply_right (length ds) o a b)
