-- Cases of our own: what the starred ones leave out. As one table, in the same form.
use Rattle.std.specs.Prelude.{ℕ, ◌^◌, List, [], ◌∷◌, ◌++◌, replicate}
use Rattle.walk.specs.declared.Status.TheVariants.{Found, None, Going}
use Rattle.walk.specs.Network.{Network}
use Rattle.walk.specs.Condition.{Condition}
use Rattle.walk.specs.Question.{Question}
use Rattle.walk.specs.Sessions.{start, round, first, next, refused, chain, none, end, after, Session}
use Rattle.walk.specs.Cases.{step, session, move, ask, net_n, sets_n, cond_n, N, x, blank, after0, after1, after2, buf, o}

-- a network of V marks, K kinds and three columns
abbrev net : ℕ → ℕ → List ℕ → List ℕ → List ℕ → Network
net v k f t s = record { marks = v; kinds = k; froms = f; tos = t; sets = s }

-- one state that starts and accepts and follows itself under kind 0
abbrev any : Condition
any = record { states = 1; start = 1; accept = 1; moves = move 0 0 0 ∷ [] }

-- two chains, 1 2 and 0 3: from the last tie 1 2 comes first, from the first tie it would be 0 3
abbrev pub crossed : Question
crossed = ask (net 4 1 (0 ∷ 0 ∷ 2 ∷ 1 ∷ []) (1 ∷ 2 ∷ 3 ∷ 3 ∷ []) (1 ∷ 1 ∷ 1 ∷ 1 ∷ [])) any 0 3

-- one chain, 1, of least length 1; with more rounds mark 1 is reached too, by two ties, and tie 2 leads from it to t
abbrev farther : Question
farther = ask (net 3 1 (2 ∷ 0 ∷ 1 ∷ []) (1 ∷ 2 ∷ 2 ∷ []) (1 ∷ 1 ∷ 1 ∷ [])) any 0 2

-- N with other sizes, ties, condition or marks
abbrev sized : ℕ → ℕ → List ℕ → Question
sized v k s = ask (net v k (0 ∷ 0 ∷ 0 ∷ 1 ∷ 2 ∷ []) (1 ∷ 1 ∷ 2 ∷ 3 ∷ 3 ∷ []) s) (cond_n 1) 0 3

abbrev tied : List ℕ → List ℕ → ℕ → Question
tied f t q = ask (net 4 2 f t sets_n) (record { states = q; start = 1; accept = 2; moves = move 0 0 0 ∷ move 0 2 0 ∷ [] }) 0 3

abbrev moved : ℕ → ℕ → ℕ → ℕ → Question
moved st ac k t = ask (net_n sets_n) (record { states = 2; start = st; accept = ac; moves = move 0 0 0 ∷ move 0 k 1 ∷ [] }) 0 t

-- one mark, 32 kinds and 32 states, one tie with kind 31, and a move from state 0 to state 31
abbrev wide : Question
wide = ask (net 1 32 (0 ∷ []) (0 ∷ []) (2 ^ 31 ∷ [])) (record { states = 32; start = 1; accept = 2 ^ 31; moves = move 0 31 31 ∷ [] }) 0 0

abbrev wide0 : List ℕ
wide0 = 0 ∷ replicate 31 x

abbrev wide1 : List ℕ
wide1 = 0 ∷ replicate 30 x ++ (1 ∷ [])

-- V, K and Q at their ceilings, e ties and m moves, and t not below V
abbrev full : ℕ → ℕ → Question
full e m = ask (net 1024 32 (replicate e 0) (replicate e 0) (replicate e 1)) (record { states = 32; start = 1; accept = 1; moves = replicate m (move 31 31 31) }) 0 1024

-- each move of N's condition twice, and a tie of no kind from 0 to 3
abbrev twice : Question
twice =
    ask (net 4 2 (0 ∷ 0 ∷ 0 ∷ 0 ∷ 1 ∷ 2 ∷ []) (1 ∷ 1 ∷ 2 ∷ 3 ∷ 3 ∷ 3 ∷ []) (3 ∷ 2 ∷ 1 ∷ 0 ∷ 3 ∷ 2 ∷ []))
    (record { states = 2; start = 1; accept = 2; moves = (cond_n 1).moves ++ (cond_n 1).moves }) 0 3

-- start on the area w is refused with number n and place p, and leaves it
abbrev refusal : Question → List ℕ → ℕ → ℕ → Session
refusal D w n p = session D w o (step start (refused n p) w o ∷ [])

unfoldable pub own : List Session
own =
    -- the order from the last tie
    session crossed (0 ∷ 1 ∷ 1 ∷ 2 ∷ []) o (
    step (first 2) chain (0 ∷ 1 ∷ 1 ∷ 2 ∷ []) (buf 1 2)
    ∷ step (next 2) chain (0 ∷ 1 ∷ 1 ∷ 2 ∷ []) (buf 0 3)
    ∷ step (next 2) end (0 ∷ 1 ∷ 1 ∷ 2 ∷ []) (buf 0 3) ∷ [])
    -- a pair that is reached, but is not exactly one shorter, is no way back
    ∷ session farther (0 ∷ 2 ∷ 1 ∷ []) o (
    step (first 3) chain (0 ∷ 2 ∷ 1 ∷ []) (1 ∷ 9 ∷ 9 ∷ [])
    ∷ step (next 3) end (0 ∷ 2 ∷ 1 ∷ []) (1 ∷ 9 ∷ 9 ∷ []) ∷ [])
    -- next on None is 11, first says None; both with no room for a chain
    ∷ session (ask (net_n sets_n) (cond_n 0) 0 3) (replicate 8 x) [] (
    step (next 0) (refused 11 0) (replicate 8 x) []
    ∷ step (first 0) none (replicate 8 x) [] ∷ [])
    -- a round on a Found or None area, and the list with a count above the least length
    ∷ session N after2 o (
    step (round 2) (after 2 (Found 2)) after2 o
    ∷ step (first 8) chain after2 (buf 0 3)
    ∷ step (next 5) chain after2 (buf 1 3) ∷ [])
    ∷ session (ask (net_n sets_n) (cond_n 0) 0 3) (replicate 8 x) o (
    step (round 3) (after 3 None) (replicate 8 x) o ∷ [])
    -- any listed chain handed back gets the one after it; a tie number past the table is no listed chain
    ∷ session N after2 (buf 1 3) (
    step (next 2) chain after2 (buf 2 4) ∷ [])
    ∷ session N after2 (buf 0 5) (
    step (next 2) (refused 11 0) after2 (buf 0 5) ∷ [])
    -- 32 kinds and 32 states
    ∷ session wide (replicate 32 7) (9 ∷ []) (
    step start (after 0 Going) wide0 (9 ∷ [])
    ∷ step (round 0) (after 1 (Found 1)) wide1 (9 ∷ [])
    ∷ step (first 1) chain wide1 (0 ∷ [])
    ∷ step (next 1) end wide1 (0 ∷ []) ∷ [])
    -- repeated moves and a tie with no kind
    ∷ session twice blank o (
    step start (after 0 Going) after0 o
    ∷ step (round 0) (after 1 Going) after1 o
    ∷ step (round 1) (after 2 (Found 2)) after2 o
    ∷ step (first 2) chain after2 (buf 0 4)
    ∷ step (next 2) chain after2 (buf 1 4)
    ∷ step (next 2) chain after2 (buf 2 5)
    ∷ step (next 2) end after2 (buf 2 5) ∷ [])
    -- each size that refusal 1 names
    ∷ refusal (sized 0 2 sets_n) blank 1 0
    ∷ refusal (sized 1025 2 sets_n) blank 1 0
    ∷ refusal (sized 4 0 sets_n) blank 1 0
    ∷ refusal (sized 4 33 sets_n) blank 1 0
    ∷ refusal (sized 4 2 (3 ∷ [])) blank 1 0
    ∷ refusal (ask (net 4 2 (0 ∷ []) [] (1 ∷ [])) (cond_n 1) 0 3) blank 1 0
    ∷ refusal (full 4097 0) blank 1 0
    -- what refusal 4 names; with V, K, Q and the moves at their ceilings nothing before 6 is given
    ∷ refusal (full 100 256) blank 6 0
    ∷ refusal (full 0 257) blank 4 0
    ∷ refusal (tied (0 ∷ 0 ∷ 0 ∷ 1 ∷ 2 ∷ []) (1 ∷ 1 ∷ 2 ∷ 3 ∷ 3 ∷ []) 0) blank 4 0
    ∷ refusal (moved 4 2 0 3) blank 4 0
    ∷ refusal (moved 1 4 0 3) blank 4 0
    -- two faults at once: 1 and 2, 2 and 3 (the tie out of order stands first), 3 and 4, 4 and 5, 5 and 6, 6 and 7
    ∷ refusal (sized 2 33 sets_n) blank 1 0
    ∷ refusal (tied (0 ∷ 0 ∷ 0 ∷ 1 ∷ 4 ∷ []) (1 ∷ 2 ∷ 1 ∷ 3 ∷ 3 ∷ []) 2) blank 2 4
    ∷ refusal (tied (0 ∷ 0 ∷ 0 ∷ 1 ∷ 2 ∷ []) (1 ∷ 2 ∷ 1 ∷ 3 ∷ 3 ∷ []) 33) blank 3 2
    ∷ refusal (tied (0 ∷ 0 ∷ 0 ∷ 1 ∷ 2 ∷ []) (1 ∷ 1 ∷ 2 ∷ 3 ∷ 3 ∷ []) 33) blank 4 0
    ∷ refusal (moved 1 2 2 4) blank 5 1
    ∷ refusal (moved 1 2 1 4) (7 ∷ []) 6 0
    -- 7 and 8, 8 and 9, 9 and 11 with a buffer of no word (9 and 10 exclude each other), 10 and 11
    ∷ session N (7 ∷ []) o (
    step (round 9) (refused 7 8) (7 ∷ []) o ∷ [])
    ∷ session N after0 [] (
    step (first 1) (refused 8 0) after0 []
    ∷ step (next 1) (refused 8 0) after0 [] ∷ [])
    ∷ session N after1 [] (
    step (first 1) (refused 9 0) after1 []
    ∷ step (next 1) (refused 9 0) after1 [] ∷ [])
    ∷ session N after2 (4 ∷ []) (
    step (next 2) (refused 10 2) after2 (4 ∷ []) ∷ [])
    ∷ []
