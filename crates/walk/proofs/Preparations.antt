-- What holds after start and any number of rounds: the count is their number, the status is that of the right area, and the area is the right one
-- with the words behind it as they were. By induction over the calls: each that is not refused passes its tests, and a round made on a Going area
-- writes the right area for one round more. A pair stands at a count that is Going, so such a count is below V×Q.
use Prim.Native.Nat.{ℕ, suc, ◌≤◌, ◌<◌}
use mathlib.Core.Path.{◌≡◌, refl, sym, ◌∙◌, ap}
use mathlib.Core.Bool.{Bool, false, cond}
use mathlib.Core.List.{List, ◌++◌}
use mathlib.Core.Logic.{◌⊎◌, inl, inr, ⊎_elim}
use native.Mathlib.Omega.{arith}
use lib.ListN.{length, take, drop, length-append}
use lib.Seq.{take_at, drop_at}
use Rattle.walk.specs.declared.Status.{Status}
use Rattle.walk.specs.declared.Status.TheVariants.{Found, None, Going}
use Rattle.walk.specs.Network.{Network}
use Rattle.walk.specs.Condition.{Condition}
use Rattle.walk.specs.Question.{Question, usable, pairs, right, status}
use Rattle.walk.specs.Refusals.{Row, number, is_going, start_tests, round_tests}
use Rattle.walk.specs.Calls.{refused, gives, Progress, Done, leave, judged, progress, prepared, start, round}
use Rattle.walk.specs.Demands.{NoneGiven, Accepted, Finished, Made, begun, again}
use Rattle.walk.proofs.Numbers.{clash}
use Rattle.walk.proofs.Words.{unreached}
use Rattle.walk.proofs.Areas.{length-area}
use Rattle.walk.proofs.Lengths.{standing, least_to_bound}
use Rattle.walk.proofs.Statuses.{going-is}
use Rattle.walk.proofs.Refusals.{first_or_none, judged-none, judged-first, Ready, accepted_law, ready, start-passes, round-passes}

-- a call that gives something was refused by no row
not-refused : {A B : Type 0} (l : List Row) (w : B) (d : Done A B) {a : A} {b : B} → judged l w d ≡ leave a b → NoneGiven l
not-refused {A} {B} l w d {a} {b} e =
    ⊎_elim (λ h. h)
    (λ (x, F). absurd (let f : refused (number x.name) x.place ≡ gives a = ap (λ (k : Done A B). k.answer) (sym (judged-first w d l x F) ∙ e) in clash cc))
    (first_or_none l)

leave_same : {A B : Type 0} {p q : A} {a b : B} → leave p a ≡ leave q b → (p ≡ q) × (a ≡ b)
leave_same {A} {B} {p} {q} e = let f : gives p ≡ gives q = ap (λ (d : Done A B). d.answer) e in (cc, ap (λ (d : Done A B). d.left) e)

pub finished-idle : (S : Status) → Finished S → is_going S ≡ false
finished-idle (Found n) f = refl
finished-idle None f = refl
finished-idle Going f = absurd (f refl)

pub going-or-finished : (S : Status) → (S ≡ Going) ⊎ Finished S
going-or-finished (Found d) = inr (λ e. clash cc)
going-or-finished None = inr (λ e. clash cc)
going-or-finished Going = inl refl

module _ (D : Question) where
  abbrev N : Network
  N = usable D

  abbrev C : Condition
  C = D.condition

  pub right-long : (r : ℕ) → length (right D r) ≡ pairs D
  unfolding right usable
  right-long r = length-area N C D.from r

  pub below-pairs : Ready D → (n : ℕ) → n ≤ pairs D → status D n ≡ Going → n < pairs D
  unfolding status usable
  below-pairs R n h e =
      let f = R.few in
      let few : n < unreached = omega arith in
      let (g, _) = going-is N C D.from D.to R.sound R.to_in n few e in
      let (u, p, hu, hp, E) = (standing N C D.from R.sound n few).0 g in
      least_to_bound N C D.from R.sound n u p E hu hp

  -- what a round does whose tests pass
  round_is : (r : ℕ) (a : List ℕ) → NoneGiven (round_tests D r a) → round D r a ≡ cond (is_going (status D r)) (prepared D (suc r) a) (leave (progress D r) a)
  unfolding round
  round_is r a h = judged-none a _ (round_tests D r a) h

  pub round-goes : (r : ℕ) (a : List ℕ) → NoneGiven (round_tests D r a) → status D r ≡ Going
      → round D r a ≡ leave (progress D (suc r)) (right D (suc r) ++ drop (pairs D) a)
  unfolding prepared
  round-goes r a h g = round_is r a h ∙ ap (λ (S : Status). cond (is_going S) (prepared D (suc r) a) (leave (progress D r) a)) g

  pub round-idle : (r : ℕ) (a : List ℕ) → NoneGiven (round_tests D r a) → Finished (status D r) → round D r a ≡ leave (progress D r) a
  round-idle r a h f = round_is r a h ∙ ap (λ (b : Bool). cond b (prepared D (suc r) a) (leave (progress D r) a)) (finished-idle (status D r) f)

  pub round-given : (r : ℕ) (a : List ℕ) {b : List ℕ} {p : Progress} → round D r a ≡ leave p b → NoneGiven (round_tests D r a)
  unfolding round
  round-given r a e = not-refused (round_tests D r a) a _ e

  -- what a round leaves as it is has passed its tests, and its status is that of the right area: one more round would have raised the count
  pub idle-says : (p : Progress) (a : List ℕ) → round D p.done a ≡ leave p a → NoneGiven (round_tests D p.done a) × (p.status ≡ status D p.done)
  unfolding progress
  idle-says p a e = (h, ⊎_elim going idle (going-or-finished (status D p.done)))
    where
      h : NoneGiven (round_tests D p.done a)
      h = round-given p.done a e

      going : status D p.done ≡ Going → p.status ≡ status D p.done
      going g = let z : p.done ≡ suc p.done = ap (λ (x : Progress). x.done) (leave_same (sym e ∙ round-goes p.done a h g)).0 in absurd (omega arith)

      idle : Finished (status D p.done) → p.status ≡ status D p.done
      idle f = ap (λ (x : Progress). x.status) (leave_same (sym e ∙ round-idle p.done a h f)).0

  module _ (w : List ℕ) where
    -- what holds after n rounds
    pub record Holds (n : ℕ) (p : Progress) (a : List ℕ) : Type 0 where
      pub accepted : Accepted D
      pub room : pairs D ≤ length w
      pub says : p ≡ progress D n
      pub area : a ≡ right D n ++ drop (pairs D) w
      pub within : n ≤ pairs D
      pub going : (k : ℕ) → n ≡ suc k → status D k ≡ Going

    start-holds : {p : Progress} {a : List ℕ} → start D w ≡ leave p a → Holds 0 p a
    unfolding start prepared
    start-holds {p} {a} e =
        let h = not-refused (start_tests D w) w (prepared D 0 w) e in
        let (q, f) = leave_same (sym e ∙ judged-none w (prepared D 0 w) (start_tests D w) h) in
        let (l, long) = (start-passes D w).0 h in
        record { accepted = (accepted_law D).0 l; room = long; says = q; area = f; within = omega arith; going = λ k z. absurd (omega arith) }

    round-holds : {n : ℕ} {p q : Progress} {a b : List ℕ} → Holds n p a → p.status ≡ Going → round D p.done a ≡ leave q b → Holds (suc n) q b
    unfolding progress
    round-holds {n} {p} {q} {a} {b} H s e =
        let c : p.done ≡ n = ap (λ (x : Progress). x.done) H.says in
        let g : status D n ≡ Going = sym (ap (λ (x : Progress). x.status) H.says) ∙ s in
        let e' : round D n a ≡ leave q b = rw c at e in
        let (y, f) = leave_same (sym e' ∙ round-goes n a (round-given n a e') g) in
        let rest : drop (pairs D) a ≡ drop (pairs D) w = ap (λ (l : List ℕ). drop (pairs D) l) H.area ∙ drop_at (right D n) (drop (pairs D) w) (pairs D) (right-long n) in
        record {
          accepted = H.accepted;
          room = H.room;
          says = y;
          area = f ∙ ap (λ (l : List ℕ). right D (suc n) ++ l) rest;
          within = below-pairs (ready D H.accepted) n H.within g;
          going = λ i z. (let v : n ≡ i = omega arith in rw v at g);
        }

    pub holds : {n : ℕ} {p : Progress} {a : List ℕ} → Made D w n p a → Holds n p a
    holds (begun e) = start-holds e
    holds (again M s e) = round-holds (holds M) s e

    -- the tests of a round pass on what a preparation leaves
    pub tests_pass : {n : ℕ} {p : Progress} {a : List ℕ} → Made D w n p a → NoneGiven (round_tests D n a)
    tests_pass {n} {p} {a} M = (round-passes D n a).1 ((start-passes D a).1 ((accepted_law D).1 H.accepted, long), (H.within, front))
      where
        H : Holds n p a
        H = holds M

        front : take (pairs D) a ≡ right D n
        front = ap (λ (l : List ℕ). take (pairs D) l) H.area ∙ take_at (right D n) (drop (pairs D) w) (pairs D) (right-long n)

        long : pairs D ≤ length a
        long = let e = ap length H.area ∙ length-append (right D n) (drop (pairs D) w) in let l = right-long n in omega arith
