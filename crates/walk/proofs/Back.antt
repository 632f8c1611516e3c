-- Going back from t with the set of states alive, one tie at a time. The set before a tie is a function of the tie and the set after it; it holds
-- exactly the states with the word of their place from which the rest of the chain leads on to an accepting state, because a smaller word would
-- give a shorter match. So the rest can be completed exactly if its set is not empty, and a chain is
-- listed exactly if it can be walked back so.
use Prim.Native.Nat.{ℕ, zero, suc, ◌+◌, ◌^◌, ◌≤◌, ◌<◌}
use mathlib.Core.Path.{◌≡◌, refl, sym, ◌∙◌, subst}
use mathlib.Core.Bool.{Bool, cond}
use mathlib.Core.List.{List, [], ◌∷◌, ◌++◌, append_assoc, Memᴰ}
use mathlib.Core.Option.{Option, none, some}
use mathlib.Core.Logic.{◌↔◌}
use native.Mathlib.Nat.{add-zero, zero-add}
use native.Mathlib.Omega.{arith}
use lib.Dec.{leb, ltb, eqb}
use lib.ListN.{length, length-append}
use lib.Seq.{take_all}
use borrow.Author.Tests.{eqb-true, ltb-true, lt-ltb}
use Rattle.walk.specs.Numbers.{has, ◌and◌, any_below, least, set_below}
use Rattle.walk.specs.Network.{Network, ties, from_of, to_of}
use Rattle.walk.specs.Condition.{Condition, accepts}
use Rattle.walk.specs.Walk.{Joins, Fits, LeastMatching}
use Rattle.walk.specs.Area.{leads, reach, word}
use Rattle.walk.specs.Chains.{list}
use Rattle.walk.proofs.Numbers.{Yes, and_in, and_of, eqb_of, any_below_in, any_below_of}
use Rattle.walk.proofs.Sets.{nonempty, set_in, set_of, some_of, in_some, set_small}
use Rattle.walk.proofs.Executable.{Sound, Arc, Runs, runs_nil, runs_cons, leads-states, reach_law, reach-suc, suc-reach, joins_split, joins_join, runs_split, runs_join}
use Rattle.walk.proofs.Words.{unreached, word-is}
use Rattle.walk.proofs.Listings.{list_law}

-- a place whose tie can be raised: the tie it is raised to, the states alive before that, and the rest of the chain after it
pub record Raise : Type 0 where
  pub place : ℕ
  pub tie : ℕ
  pub alive : ℕ
  pub rest : List ℕ

-- the mark where the rest d of a chain into t begins
abbrev pub mark : Network → ℕ → List ℕ → ℕ
mark N t [] = t
mark N t (e ∷ d) = from_of N e

pub joins-mark : (N : Network) (t v : ℕ) (d : List ℕ) → Joins N v d t → mark N t d ≡ v
joins-mark N t v [] j = sym j
joins-mark N t v (e ∷ d) j = j.1

-- over any step back: `back e i S` are the states alive before tie e, with i ties to come before it, where S are alive after it
module _ (N : Network) (back : ℕ → ℕ → ℕ → ℕ) where
  -- tie e enters the mark u, and before it a state is alive
  unfoldable pub enters : ℕ → ℕ → ℕ → ℕ → Bool
  enters u i S e = eqb (to_of N e) u and nonempty (back e i S)

  -- the smallest such tie from lo on, or the number of ties
  unfoldable pub lowest : ℕ → ℕ → ℕ → ℕ → ℕ
  lowest lo u i S = least (λ e. leb lo e and enters u i S e) (ties N)

  -- i ties into u before the rest d, each the smallest
  unfoldable pub fill : ℕ → ℕ → ℕ → List ℕ → List ℕ
  fill zero u S d = d
  fill (suc i) u S d = let e = lowest 0 u i S in fill i (from_of N e) (back e i S) (e ∷ d)

  -- fill makes i ties before d
  pub fill-ends : (i u S : ℕ) (d : List ℕ) → (g : List ℕ) × (length g ≡ i) × (fill i u S d ≡ g ++ d)
  unfolding fill
  fill-ends zero u S d = ([], refl, refl)
  fill-ends (suc i) u S d =
      let e = lowest 0 u i S in
      let (g, l, f) = fill-ends i (from_of N e) (back e i S) (e ∷ d) in
      (g ++ (e ∷ []), length-append g (e ∷ []) ∙ omega arith, f ∙ sym (append_assoc g (e ∷ []) d))

  module _ (t S : ℕ) where
    -- the states alive where the rest d begins, when i ties are to come before it; S are alive at t
    unfoldable pub set_at : ℕ → List ℕ → ℕ
    set_at i [] = S
    set_at i (e ∷ d) = back e i (set_at (suc i) d)

    -- at every place of d the tie joins what follows, and a state is alive
    unfoldable pub goes : ℕ → List ℕ → Bool
    goes i [] = nonempty S
    goes i (e ∷ d) = goes (suc i) d and (ltb e (ties N) and enters (mark N t d) i (set_at (suc i) d) e)

    -- the place of d nearest the front whose tie can be raised; d's first tie stands at place i
    unfoldable pub raise : ℕ → List ℕ → Option Raise
    raise i [] = none
    raise i (x ∷ d) =
        let e = lowest (suc x) (mark N t d) i (set_at (suc i) d) in
        cond (ltb e (ties N)) (some (record { place = i; tie = e; alive = back e i (set_at (suc i) d); rest = d })) (raise (suc i) d)

  -- the chain that a raised tie makes
  abbrev pub raised : Option Raise → Option (List ℕ)
  raised none = none
  raised (some R) = some (fill R.place (from_of N R.tie) R.alive (R.tie ∷ R.rest))

pub nil_of : (c : List ℕ) → length c ≡ 0 → c ≡ []
nil_of c e = sym (take_all 0 c (omega arith))

module _ (N : Network) (C : Condition) (s t r : ℕ) where
  -- the step back over tie e: the states with the word i at its from mark from which it leads to a state of S
  unfoldable pub back : ℕ → ℕ → ℕ → ℕ
  back e i S = set_below C.states (λ p. eqb (word N C s r (from_of N e) p) i and any_below C.states (λ q. leads N C e p q and has S q))

  -- the states alive at t: the accepting ones with the word n
  unfoldable pub at_end : ℕ → ℕ
  at_end n = set_below C.states (λ q. eqb (word N C s r t q) n and accepts C q)

  pub back_in : (e i S p : ℕ) → Yes (has (back e i S) p) → (word N C s r (from_of N e) p ≡ i) × ((q : ℕ) × Yes (leads N C e p q) × Yes (has S q))
  unfolding back
  back_in e i S p h =
      let (_, x) = set_in _ _ p h in
      let (w, y) = and_in _ _ x in
      let (q, _, z) = any_below_in _ _ y in
      let (a, b) = and_in _ _ z in
      (eqb-true _ _ w, (q, a, b))

  pub back_small : (e i S : ℕ) → back e i S < 2 ^ C.states
  unfolding back
  back_small e i S = set_small _ _

  pub end_in : (n q : ℕ) → Yes (has (at_end n) q) → (word N C s r t q ≡ n) × Yes (accepts C q)
  unfolding at_end
  end_in n q h = let (_, x) = set_in _ _ q h in let (w, a) = and_in _ _ x in (eqb-true _ _ w, a)

  -- the states alive before the rest d of a chain of n ties, with i ties to come before d, and the mark where d begins
  abbrev pub alive : ℕ → ℕ → List ℕ → ℕ
  alive n i d = set_at N back t (at_end n) i d

  -- some chain of length i before d makes it a matching chain
  abbrev pub Completes : ℕ → List ℕ → Type 0
  Completes i d = (c : List ℕ) × (length c ≡ i) × Fits N C s t (c ++ d)

  -- d leads on from the state p to an accepting one
  abbrev pub On : ℕ → List ℕ → Type 0
  On p d = (q : ℕ) × Yes (accepts C q) × Runs N C p d q

  module _ (ok : Sound N C) where
    pub back_of : (e i S p q : ℕ) → word N C s r (from_of N e) p ≡ i → Yes (leads N C e p q) → Yes (has S q) → Yes (has (back e i S) p)
    unfolding back
    back_of e i S p q w l h =
        let (a, b) = leads-states N C ok e p q l in
        set_of _ _ p a (and_of (eqb_of {n = i} w) (any_below_of _ _ q b (and_of l h)))

    end_of : (n q : ℕ) → word N C s r t q ≡ n → Yes (accepts C q) → Yes (has (at_end n) q)
    unfolding at_end
    end_of n q w a = set_of _ _ q (ok.accept_in q a) (and_of (eqb_of {n = n} w) a)

    -- no set is empty by accident: a tie leads to a state that has the word i + 1 at u
    pub fed : (u i S q : ℕ) → r < unreached → suc i ≤ r → word N C s r u q ≡ suc i → Yes (has S q)
        → (e : ℕ) × (e < ties N) × (to_of N e ≡ u) × Yes (nonempty (back e i S))
    fed u i S q few ir w h =
        let W = word-is N C s r u q few in
        let (v, p, a, y) = reach-suc N C ok s i u q (rw w at (W.met (omega arith))) in
        let U = word-is N C s r v p few in
        let below : word N C s r v p ≤ i = U.least i (omega arith) y in
        let above : word N C s r u q ≤ suc (word N C s r v p) = W.least (suc (word N C s r v p)) (omega arith) (suc-reach N C ok s (word N C s r v p) v p u q a (U.met (omega arith))) in
        let z : word N C s r v p ≡ i = omega arith in
        (a.tie, a.tie_in, a.arrives, some_of _ p (back_of a.tie i S p q (rw a.leaves z) a.steps h))

    module _ (n : ℕ) (few : r < unreached) (fits : n ≤ r) (short : LeastMatching N C s t n) where
      joined : (i v p : ℕ) (d : List ℕ) → Yes (reach N C s i v p) → Joins N v d t → On p d → Completes i d
      joined i v p d h j (q, a, x) =
          let (c, l, (jc, (o, st, xc))) = (reach_law N C ok s i v p).0 h in
          (c, l, (joins_join N C s c d v t jc j, (q, a, (o, st, runs_join N C ok o c d p q xc x))))

      -- a state that is reached with i ties, and from which d leads on, has the word i: a smaller one would give a shorter match
      exact : (i v p : ℕ) (d : List ℕ) → i + length d ≡ n → Yes (reach N C s i v p) → Joins N v d t → On p d → word N C s r v p ≡ i
      exact i v p d z h j o =
          let W = word-is N C s r v p few in
          let below : word N C s r v p ≤ i = W.least i (omega arith) h in
          let not-less : ¬ (word N C s r v p < i) =
          λ less. let (c, l, k) = joined (word N C s r v p) v p d (W.met (omega arith)) j o in
          let m = short.least (c ++ d) k in
          let e = length-append c d in
          omega arith in
          omega arith

      -- the set alive holds exactly the states with the word i at d's mark from which d leads on
      pub alive_law : (i : ℕ) (d : List ℕ) → i + length d ≡ n → Joins N (mark N t d) d t → (p : ℕ) → Yes (has (alive n i d) p)
          ↔ ((word N C s r (mark N t d) p ≡ i) × On p d)
      unfolding set_at
      alive_law i [] z j p =
          let e : i ≡ n = sym (add-zero i) ∙ z in (
            λ h. let (w, a) = end_in n p h in (w ∙ sym e, (p, a, (runs_nil N C p p).1 refl)),
            λ (w, (q, a, x)). let f : p ≡ q = (runs_nil N C p q).0 x in end_of n p (w ∙ e) (rw f a),
          )
      alive_law i (e ∷ d) z (eh, _, jd) p =
          let m : mark N t d ≡ to_of N e = joins-mark N t (to_of N e) d jd in
          let ih = alive_law (suc i) d (omega arith) (rw m jd) in (
            λ h. let (w, (o, l, k)) = back_in e i _ p h in
                let (_, (q, a, x)) = (ih o).0 k in
                (w, (q, a, (runs_cons N C ok p e d q).1 (o, l, x))),
            λ (w, (q, a, x)). let (o, l, y) = (runs_cons N C ok p e d q).0 x in
                let arc : Arc N C (from_of N e) p (to_of N e) o = record { tie = e; tie_in = eh; leaves = refl; arrives = refl; steps = l } in
                let h = suc-reach N C ok s i (from_of N e) p (to_of N e) o arc (rw w at ((word-is N C s r (from_of N e) p few).met (omega arith))) in
                let up = exact (suc i) (to_of N e) o d (omega arith) h jd (q, a, y) in
                back_of e i _ p o w l ((ih o).1 (rw m up, (q, a, y))),
          )

      alive_small : (i : ℕ) (d : List ℕ) → alive n i d < 2 ^ C.states
      unfolding set_at at_end
      alive_small i [] = set_small _ _
      alive_small i (e ∷ d) = back_small e i _

      -- the rest d can be completed exactly if it joins its mark to t and its set is not empty
      pub completes_law : (i : ℕ) (d : List ℕ) → i + length d ≡ n → Completes i d ↔ (Joins N (mark N t d) d t × Yes (nonempty (alive n i d)))
      completes_law i d z = (to, of)
        where
          to : Completes i d → Joins N (mark N t d) d t × Yes (nonempty (alive n i d))
          to (c, l, (j, (q, a, (o, st, x)))) =
              let (v, jc, jd) = joins_split N C s c d t j in
              let (p, xc, xd) = runs_split N C ok o c d q x in
              let m = joins-mark N t v d jd in
              let w = exact i v p d z ((reach_law N C ok s i v p).1 (c, l, (jc, (o, st, xc)))) jd (q, a, xd) in
              let jm : Joins N (mark N t d) d t = rw m jd in
              (jm, some_of _ p ((alive_law i d z jm p).1 (rw m w, (q, a, xd))))

          of : Joins N (mark N t d) d t × Yes (nonempty (alive n i d)) → Completes i d
          of (j, h) =
              let (p, _, k) = in_some C.states (alive n i d) (alive_small i d) h in
              let (w, o) = (alive_law i d z j p).0 k in
              joined i (mark N t d) p d (rw w at ((word-is N C s r (mark N t d) p few).met (omega arith))) j o

      -- the test of a chain
      some_before : (e i S : ℕ) → Yes (nonempty (back e i S)) → Yes (nonempty S)
      some_before e i S h =
          let (p, _, k) = in_some C.states _ (back_small e i S) h in
          let (_, (q, _, x)) = back_in e i S p k in
          some_of S q x

      goes_in : (i : ℕ) (d : List ℕ) → Yes (goes N back t (at_end n) i d) → Joins N (mark N t d) d t × Yes (nonempty (alive n i d))
      unfolding goes set_at enters
      goes_in i [] h = (refl, h)
      goes_in i (e ∷ d) h =
          let (a, h₁) = and_in _ _ h in
          let (b, h₂) = and_in _ _ h₁ in
          let (k, x) = and_in _ _ h₂ in
          ((ltb-true _ _ b, refl, rw (eqb-true (to_of N e) (mark N t d) k) (goes_in (suc i) d a).0), x)

      goes_of : (i : ℕ) (d : List ℕ) → Joins N (mark N t d) d t → Yes (nonempty (alive n i d)) → Yes (goes N back t (at_end n) i d)
      unfolding goes set_at enters
      goes_of i [] j h = h
      goes_of i (e ∷ d) (eh, _, jd) h =
          let m : mark N t d ≡ to_of N e = joins-mark N t (to_of N e) d jd in
          and_of (goes_of (suc i) d (rw m jd) (some_before e i _ h)) (and_of (lt-ltb _ _ eh) (and_of (eqb_of (sym m)) h))

      -- a chain of the least length goes all the way back exactly if it is in the list
      pub goes_law : (c : List ℕ) → length c ≡ n → Yes (goes N back t (at_end n) 0 c) ↔ Memᴰ c (list N C s t n)
      goes_law c l = (
        λ h. let (c', l', x) = (completes_law 0 c (zero-add _ ∙ l)).1 (goes_in 0 c h) in
            (list_law N C s t n ok c).1 (l, subst (λ (k : List ℕ). Fits N C s t (k ++ c)) (nil_of c' l') x),
        λ h. let (_, x) = (list_law N C s t n ok c).0 h in
            let (jd, y) = (completes_law 0 c (zero-add _ ∙ l)).0 ([], refl, x) in
            goes_of 0 c jd y,
      )
