-- Demand 3: "asking for the first chain and handing each one back for the next yields every matching chain of least length, each exactly once,
-- nothing else, in order of tie number compared from the last tie backwards, and then "end". Any chain of that list, handed back at any time, gets
-- the one after it, and the last gets "end"."
-- The list at the least length holds the listed chains and rises in the order; first gives its first, and next the one after.
use Prim.Native.Nat.{ℕ, ◌≤◌}
use mathlib.Core.Path.{◌≡◌, refl, sym, ◌∙◌, subst, ap}
use mathlib.Core.Bool.{false}
use mathlib.Core.List.Memᴰ
use mathlib.Core.List.{List, [], ◌∷◌, ◌++◌, append_assoc, Memᴰ, head?}
use mathlib.Core.Option.{Option, some}
use mathlib.Core.Logic.{◌↔◌}
use native.Mathlib.Omega.{arith}
use lib.ListN.{length, take, drop, length-append}
use lib.Seq.{take_at, drop_at}
use borrow.Author.Tests.{le-ltb}
use Rattle.walk.specs.declared.Status.{Status}
use Rattle.walk.specs.declared.Status.TheVariants.{Found, None}
use Rattle.walk.specs.Network.{Network}
use Rattle.walk.specs.Condition.{Condition}
use Rattle.walk.specs.Walk.{LeastMatching, Listed}
use Rattle.walk.specs.Chains.{after_of}
use Rattle.walk.specs.Question.{Question, status, listing, usable}
use Rattle.walk.specs.Refusals.{is_going, unfinished, short_chain, not_listed, round_tests, list_tests, first_tests, next_tests}
use Rattle.walk.specs.Calls.{Chain, NoChain, End, leave, put, earliest, later, first, next}
use Rattle.walk.specs.Demands.{NoneGiven, Rises, Yields, ends, more, Asking, Lists, Demand3}
use Rattle.walk.proofs.Order.{member_law, stands-once, after_split}
use Rattle.walk.proofs.Listings.{list_law, listed_law, list-rises}
use Rattle.walk.proofs.Refusals.{none-append, none_one, judged-none, Ready, accepted_law, ready, start-passes, round-passes}
use Rattle.walk.proofs.Preparations.{idle-says}
use Rattle.walk.proofs.Demand2.{found-says}

module _ (D : Question) (r : ℕ) (a : List ℕ) where
  abbrev N : Network
  N = usable D

  abbrev C : Condition
  C = D.condition

  list-passes : NoneGiven (round_tests D r a) → is_going (status D r) ≡ false → NoneGiven (list_tests D r a)
  unfolding list_tests unfinished
  list-passes h e = (none-append (round_tests D r a) _).1 (h, (none_one (unfinished D r)).1 e)

  module _ (passes : NoneGiven (round_tests D r a)) (n : ℕ) (S : status D r ≡ Found n) where
    R : Ready D
    R = ready D ((accepted_law D).0 ((start-passes D a).0 ((round-passes D r a).0 passes).0).0)

    short : LeastMatching N C D.from D.to n
    short =
        let (_, (h, _)) = (round-passes D r a).0 passes in
        let f = R.few in
        (found-says D R r (omega arith) n S).1

    first_passes : (b : List ℕ) → n ≤ length b → NoneGiven (first_tests D r a b)
    unfolding first_tests short_chain
    first_passes b l = (none-append (list_tests D r a) _).1 (list-passes passes (rw S), (none_one (short_chain D r b)).1 (rw S (le-ltb (length b) n l)))

    next-passes : (b : List ℕ) → n ≤ length b → Memᴰ (take n b) (listing D n) → NoneGiven (next_tests D r a b)
    unfolding next_tests not_listed
    next-passes b l m =
        (none-append (first_tests D r a b) _).1 (first_passes b l, (none_one (not_listed D r b)).1 (rw (S, (member_law (take n b) (listing D n)).1 m)))

    listed : (c : List ℕ) → Memᴰ c (listing D n) ↔ Listed N C D.from D.to c
    unfolding listing
    listed c = listed_law N C D.from D.to n R.sound short c

    long : (c : List ℕ) → Memᴰ c (listing D n) → length c ≡ n
    unfolding listing
    long c m = ((list_law N C D.from D.to n R.sound c).0 m).0

    rising : Rises (listing D n)
    unfolding listing
    rising = list-rises N C D.from D.to n

    some_chain : (l : List (List ℕ)) → listing D n ≡ l → (c : List ℕ) × (k : List (List ℕ)) × (listing D n ≡ c ∷ k)
    unfolding listing
    some_chain [] e = let (c, k, x) = short.met in absurd (Memᴰ.not-nil (subst (λ (l : List (List ℕ)). Memᴰ c l) e ((list_law N C D.from D.to n R.sound c).1 (k, x))))
    some_chain (c ∷ k) e = (c, k, e)

    first_gives : (b c : List ℕ) (k : List (List ℕ)) → n ≤ length b → listing D n ≡ c ∷ k → first D r a b ≡ leave Chain (c ++ drop n b)
    unfolding first
    first_gives b c k l e =
        judged-none b (earliest D b (status D r)) (first_tests D r a b) (first_passes b l)
        ∙ ap (λ (T : Status). earliest D b T) S
        ∙ ap (λ (x : List (List ℕ)). put NoChain b (head? x)) e
        ∙ ap (λ (i : ℕ). leave Chain (c ++ drop i b)) (long c (subst (λ (x : List (List ℕ)). Memᴰ c x) (sym e) (Memᴰ.head refl)))

    next-gives : (xs : List (List ℕ)) (c : List ℕ) (k : List (List ℕ)) (x : List ℕ) → listing D n ≡ xs ++ (c ∷ k)
        → next D r a (c ++ x) ≡ put End (c ++ x) (head? k)
    unfolding next
    next-gives xs c k x e =
        judged-none (c ++ x) (later D (c ++ x) (status D r)) (next_tests D r a (c ++ x)) (next-passes (c ++ x) room (rw front m))
        ∙ ap (λ (T : Status). later D (c ++ x) T) S
        ∙ ap (λ (d : List ℕ). put End (c ++ x) (after_of d (listing D n))) front
        ∙ ap (λ (l : List (List ℕ)). put End (c ++ x) (after_of c l)) e
        ∙ ap (λ (o : Option (List ℕ)). put End (c ++ x) o) (after_split xs c k (subst (λ (l : List (List ℕ)). Rises l) e rising))
      where
        m : Memᴰ c (listing D n)
        m = subst (λ (l : List (List ℕ)). Memᴰ c l) (sym e) (Memᴰ.append_right xs (Memᴰ.head refl))

        front : take n (c ++ x) ≡ c
        front = take_at c x n (long c m)

        room : n ≤ length (c ++ x)
        room = let l = long c m in let y = length-append c x in omega arith

    put-chain : (c y x : List ℕ) → length c ≡ n → length y ≡ n → put End (c ++ x) (some y) ≡ leave Chain (y ++ x)
    put-chain c y x l k = ap (λ (i : ℕ). leave Chain (y ++ drop i (c ++ x))) k ∙ ap (λ (d : List ℕ). leave Chain (y ++ d)) (drop_at c x n l)

    after-gives : (xs : List (List ℕ)) (c y : List ℕ) (ys : List (List ℕ)) (x : List ℕ) → listing D n ≡ xs ++ (c ∷ (y ∷ ys))
        → next D r a (c ++ x) ≡ leave Chain (y ++ x)
    after-gives xs c y ys x e =
        let at : (d : List ℕ) → Memᴰ d (c ∷ (y ∷ ys)) → length d ≡ n = λ d m. long d (subst (λ (l : List (List ℕ)). Memᴰ d l) (sym e) (Memᴰ.append_right xs m)) in
        next-gives xs c (y ∷ ys) x e ∙ put-chain c y x (at c (Memᴰ.head refl)) (at y (Memᴰ.tail (Memᴰ.head refl)))

    last-gives : (xs : List (List ℕ)) (c x : List ℕ) → listing D n ≡ xs ++ (c ∷ []) → next D r a (c ++ x) ≡ leave End (c ++ x)
    last-gives xs c x e = next-gives xs c [] x e

    yields : (k xs : List (List ℕ)) (c x : List ℕ) → listing D n ≡ xs ++ (c ∷ k) → Yields D r a x c k
    yields [] xs c x e = ends (last-gives xs c x e)
    yields (y ∷ k) xs c x e = more (after-gives xs c y k x e) (yields k (xs ++ (c ∷ [])) y x (e ∙ sym (append_assoc xs (c ∷ []) (y ∷ k))))

    asking : (b : List ℕ) → n ≤ length b → Asking D r a n b
    asking b l =
        let (c, k, e) = some_chain (listing D n) refl in
        record { chain = c; others = k; begins = first_gives b c k l e; goes_on = yields k [] c (drop n b) e; whole = e }

    pub lists : Lists D r a n
    lists = record {
      all = listed;
      rises = rising;
      once = λ xs ys c e. stands-once xs c ys (subst (λ (l : List (List ℕ)). Rises l) e rising);
      asking = asking;
      after = λ xs ys c y x e. after-gives xs c y ys x e;
      last = last-gives;
    }

  -- with None no buffer is too short, and first says so
  none_first : NoneGiven (round_tests D r a) → status D r ≡ None → (b : List ℕ) → first D r a b ≡ leave NoChain b
  unfolding first first_tests short_chain
  none_first h e b =
      judged-none b (earliest D b (status D r)) (first_tests D r a b)
      ((none-append (list_tests D r a) _).1 (list-passes h (rw e), (none_one (short_chain D r b)).1 (rw e (le-ltb (length b) 0 (omega arith)))))
      ∙ ap (λ (T : Status). earliest D b T) e

pub demand_3 : (D : Question) → Demand3 D
demand_3 D = record {
  found = λ n p a e s. (let (h, f) = idle-says D p a e in lists D p.done a h n (sym f ∙ s));
  none = λ p a b e s. (let (h, f) = idle-says D p a e in none_first D p.done a h (sym f ∙ s) b);
}
