-- Demand 2. The area after n rounds is the right one, so each word is the least length in the paper's words; the status is that of the right area, so
-- at the finish None says that no chain matches and Found gives the least length. While it says Going the count is below V×Q, so it finishes.
use Prim.Native.Nat.{ℕ, zero, suc, ◌+◌, ◌*◌, ◌≤◌, ◌<◌}
use mathlib.Core.Path.{◌≡◌, refl, sym, ◌∙◌, subst, ap}
use mathlib.Core.List.{List, ◌++◌}
use mathlib.Core.Logic.{◌↔◌, inl, inr, ⊎_elim}
use native.Mathlib.Nat.{zero-add}
use native.Mathlib.Omega.{arith}
use lib.Arith.{digits_lt}
use lib.ListN.{length, get_or, drop, get_or-append}
use lib.Seq.{drop_at, length_front, length-take-le}
use Rattle.walk.specs.declared.Status.{Status}
use Rattle.walk.specs.declared.Status.TheVariants.{Found, None, Going}
use Rattle.walk.specs.Network.{Network}
use Rattle.walk.specs.Condition.{Condition}
use Rattle.walk.specs.Walk.{Fits, LeastMatching}
use Rattle.walk.specs.Area as Area
use Rattle.walk.specs.Question.{Question, usable, pairs, right, status}
use Rattle.walk.specs.Calls.{Progress, progress}
use Rattle.walk.specs.Demands.{Finished, RightWord, NoMatch, PairAt, StatusIs, Made, begun, again, RightAfter, Finish, Demand2}
use Rattle.walk.proofs.Numbers.{first_one}
use Rattle.walk.proofs.Executable.{Sound}
use Rattle.walk.proofs.Words.{unreached, word-is}
use Rattle.walk.proofs.Areas.{area-at}
use Rattle.walk.proofs.Lengths.{least_to_law, least_to_bound, standing, word_least_to, least_to_word}
use Rattle.walk.proofs.Statuses.{matched, matched_law, shortest_law, shortest_bound, found-is, going-is, none_is}
use Rattle.walk.proofs.Refusals.{Ready, ready}
use Rattle.walk.proofs.Preparations.{Holds, holds, right-long, going-or-finished, below-pairs, round-goes, round-idle, tests_pass}

module _ (D : Question) (R : Ready D) where
  abbrev N : Network
  N = usable D

  abbrev C : Condition
  C = D.condition

  abbrev s : ℕ
  s = D.from

  abbrev t : ℕ
  t = D.to

  ok : Sound N C
  ok = R.sound

  pub least-same : (d e : ℕ) → LeastMatching N C s t d → LeastMatching N C s t e → d ≡ e
  least-same d e A B = first_one (matched N C s t ok) d e ((shortest_law N C s t ok d).1 A) ((shortest_law N C s t ok e).1 B)

  module _ (r : ℕ) (few : r < unreached) where
    pub word-right : (v q : ℕ) → RightWord D r v q (Area.word N C s r v q)
    word-right v q = ⊎_elim reached unmet (word-is N C s r v q few).small
      where
        x : ℕ
        x = Area.word N C s r v q

        reached : x ≤ r → RightWord D r v q x
        reached h = inl (h, (least_to_law N C s ok x v q).0 (word_least_to N C s r x v q few refl h))

        unmet : x ≡ unreached → RightWord D r v q x
        unmet e = inr (e, λ d L. (let z : ¬ (d ≤ r) = λ l. (let y = least_to_word N C s r d v q few ((least_to_law N C s ok d v q).1 L) l in omega arith) in omega arith))

    pub pairs-left : (0 < Area.pairs_at N C s r) ↔ PairAt D r
    pairs-left = (
      λ h. let (u, p, hu, hp, E) = (standing N C s ok r few).0 h in (u, p, hu, hp, (least_to_law N C s ok r u p).0 E),
      λ (u, p, hu, hp, L). (standing N C s ok r few).1 (u, p, hu, hp, (least_to_law N C s ok r u p).1 L),
    )

    -- what each status says
    pub found-says : (d : ℕ) → status D r ≡ Found d → (d ≤ r) × LeastMatching N C s t d
    unfolding status
    found-says d e = let (h, F) = found-is N C s t ok R.to_in r few d e in (h, (shortest_law N C s t ok d).0 F)

    none-says : status D r ≡ None → NoMatch D × (PairAt D r → ⊥)
    unfolding status
    none-says e =
        let (z, no-match) = none_is N C s t ok R.to_in r few e in
        (λ c x. no-match (length c) ((matched_law N C s t ok (length c)).1 (c, refl, x)), λ P. (let h = pairs-left.1 P in omega arith))

    going-says : status D r ≡ Going → ((c : List ℕ) → Fits N C s t c → r < length c) × PairAt D r
    unfolding status
    going-says e =
        let (h, no-match) = going-is N C s t ok R.to_in r few e in
        (λ c x. (let z : ¬ (length c ≤ r) = λ l. no-match (length c) l ((matched_law N C s t ok (length c)).1 (c, refl, x)) in omega arith), pairs-left.0 h)

    -- they exclude each other, so each is said exactly when it holds
    pub status-is : StatusIs D r
    status-is = record { found = λ d. (found-says d, found_when (status D r) refl d); none = (none-says, none_when (status D r) refl); going = (going-says, going_when (status D r) refl) }
      where
        found_when : (S : Status) → status D r ≡ S → (d : ℕ) → (d ≤ r) × LeastMatching N C s t d → status D r ≡ Found d
        found_when (Found i) e d (h, L) = e ∙ ap Found (least-same i d (found-says i e).1 L)
        found_when None e d (h, L) = let (c, _, x) = L.met in absurd ((none-says e).0 c x)
        found_when Going e d (h, L) = let (c, l, x) = L.met in let z = (going-says e).0 c x in absurd (omega arith)

        none_when : (S : Status) → status D r ≡ S → NoMatch D × (PairAt D r → ⊥) → status D r ≡ None
        none_when (Found i) e (no-match, _) = let (c, _, x) = (found-says i e).1.met in absurd (no-match c x)
        none_when None e _ = e
        none_when Going e (_, no-pair) = absurd (no-pair (going-says e).1)

        going_when : (S : Status) → status D r ≡ S → ((c : List ℕ) → Fits N C s t c → r < length c) × PairAt D r → status D r ≡ Going
        going_when (Found i) e (far, _) = let (h, L) = found-says i e in let (c, l, x) = L.met in let z = far c x in absurd (omega arith)
        going_when None e (_, P) = absurd ((none-says e).1 P)
        going_when Going e _ = e

module _ (D : Question) (w : List ℕ) where
  -- a preparation goes on while it says Going, and then the count is below V×Q
  finish : (k n : ℕ) (p : Progress) (a : List ℕ) → n + k ≡ pairs D → Made D w n p a → Finish D w
  unfolding progress
  finish zero n p a z M =
      ⊎_elim
      (λ e. let H = holds D w M in let l = below-pairs D (ready D H.accepted) n H.within (sym (ap (λ (x : Progress). x.status) H.says) ∙ e) in absurd (omega arith))
      (λ f. record { rounds = n; last = p; area = a; made = M; finished = f })
      (going-or-finished p.status)
  finish (suc k) n p a z M =
      ⊎_elim
      (λ e. let c : p.done ≡ n = ap (λ (x : Progress). x.done) (holds D w M).says in
      let g : status D n ≡ Going = sym (ap (λ (x : Progress). x.status) (holds D w M).says) ∙ e in
      finish k (suc n) (progress D (suc n)) (right D (suc n) ++ drop (pairs D) a) (omega arith) (again M e (rw c (round-goes D n a (tests_pass D w M) g))))
      (λ f. record { rounds = n; last = p; area = a; made = M; finished = f })
      (going-or-finished p.status)

  module _ {n : ℕ} {p : Progress} {a : List ℕ} (M : Made D w n p a) where
    H : Holds D w n p a
    H = holds D w M

    R : Ready D
    R = ready D H.accepted

    few : n < unreached
    few = let i = H.within in let f = R.few in omega arith

    says : p.status ≡ status D n
    unfolding progress
    says = ap (λ (x : Progress). x.status) H.says

    at_pair : (v q : ℕ) → v < (usable D).marks → q < D.condition.states
        → get_or a (v * D.condition.states + q) 0 ≡ Area.word (usable D) D.condition D.from n v q
    unfolding right usable
    at_pair v q hv hq =
        ap (λ (l : List ℕ). get_or l (v * D.condition.states + q) 0) H.area
        ∙ get_or-append (right D n) (drop (pairs D) w) 0 (v * D.condition.states + q) (rw (right-long D n) (digits_lt hv hq))
        ∙ area-at (usable D) D.condition D.from n v q hv hq

    none-exactly : Finished p.status → (p.status ≡ None) ↔ NoMatch D
    none-exactly f = (λ e. ((status-is D R n few).none.0 (sym says ∙ e)).0, λ no-match. not_found p.status refl no-match)
      where
        not_found : (S : Status) → p.status ≡ S → NoMatch D → p.status ≡ None
        not_found (Found d) e no-match = let (c, _, x) = (((status-is D R n few).found d).0 (sym says ∙ e)).1.met in absurd (no-match c x)
        not_found None e no-match = e
        not_found Going e no-match = absurd (f e)

    found-exactly : Finished p.status → (d : ℕ) → (p.status ≡ Found d) ↔ LeastMatching (usable D) D.condition D.from D.to d
    found-exactly f d = (λ e. (((status-is D R n few).found d).0 (sym says ∙ e)).1, λ L. is_found p.status refl L)
      where
        is_found : (S : Status) → p.status ≡ S → LeastMatching (usable D) D.condition D.from D.to d → p.status ≡ Found d
        is_found (Found i) e L = e ∙ ap Found (least-same D R i d (((status-is D R n few).found i).0 (sym says ∙ e)).1 L)
        is_found None e L = let (c, _, x) = L.met in absurd (((status-is D R n few).none.0 (sym says ∙ e)).0 c x)
        is_found Going e L = absurd (f e)

    right-after : RightAfter D w n p a
    unfolding progress usable
    right-after = record {
      words = λ v q hv hq. subst (λ (x : ℕ). RightWord D n v q x) (sym (at_pair v q hv hq)) (word-right D R n few v q);
      rest = ap (λ (l : List ℕ). drop (pairs D) l) H.area ∙ drop_at (right D n) (drop (pairs D) w) (pairs D) (right-long D n);
      long = ap length H.area ∙ length_front w (right D n) (pairs D) (right-long D n ∙ sym (length-take-le (pairs D) w H.room));
      bounded = λ d (v, q, hv, hq, L). least_to_bound (usable D) D.condition D.from R.sound d v q ((least_to_law (usable D) D.condition D.from R.sound d v q).1 L) hv hq;
      short = λ d L. shortest_bound (usable D) D.condition D.from D.to R.sound d R.to_in L;
      ceiling = R.few;
      none = none-exactly;
      found = found-exactly;
      idle = λ f. rw H.says (round-idle D n a (tests_pass D w M) (λ e. f (says ∙ e)));
    }

  pub demand_2 : Demand2 D w
  demand_2 = record {
    status-is = λ A r h. status-is D (ready D A) r (let f = (ready D A).few in omega arith);
    right = λ n p a M. right-after M;
    finish = λ p b e. finish (pairs D) 0 p b (zero-add (pairs D)) (begun e);
  }
