-- The starred cases of document 01, "Sessions at the desk", as one table. A word stands past the V×Q words of the area, and one past the
-- least length in the chain buffer of every case that lists and names no other buffer; both are seen to stay.
use Rattle.std.specs.Prelude.{ℕ, List, [], ◌∷◌}
use Rattle.walk.specs.declared.Move.{Move}
use Rattle.walk.specs.declared.Status.TheVariants.{Found, None, Going}
use Rattle.walk.specs.Network.{Network}
use Rattle.walk.specs.Condition.{Condition}
use Rattle.walk.specs.Question.{Question}
use Rattle.walk.specs.Sessions.{Call, start, round, first, next, ways_of, Heard, ways_are, refused, after, chain, none, end, Step, Session}

abbrev pub step : Call → Heard → List ℕ → List ℕ → Step
step k a w c = record { asked = k; heard = a; area = w; chain = c }

abbrev pub session : Question → List ℕ → List ℕ → List Step → Session
session D w c x = record { question = D; area = w; chain = c; steps = x }

abbrev pub move : ℕ → ℕ → ℕ → Move
move p k q = record { from = p; kind = k; to = q }

-- network N, its condition and its question, with what the cases change in them
abbrev pub net_n : List ℕ → Network
net_n sets = record { marks = 4; kinds = 2; froms = 0 ∷ 0 ∷ 0 ∷ 1 ∷ 2 ∷ []; tos = 1 ∷ 1 ∷ 2 ∷ 3 ∷ 3 ∷ []; sets = sets }

abbrev pub sets_n : List ℕ
sets_n = 3 ∷ 2 ∷ 1 ∷ 3 ∷ 2 ∷ []

abbrev pub cond_n : ℕ → Condition
cond_n s = record { states = 2; start = s; accept = 2; moves = move 0 0 0 ∷ move 0 1 0 ∷ move 0 0 1 ∷ move 1 0 1 ∷ move 1 1 1 ∷ [] }

abbrev pub ask : Network → Condition → ℕ → ℕ → Question
ask n c s t = record { network = n; condition = c; from = s; to = t }

abbrev pub N : Question
N = ask (net_n sets_n) (cond_n 1) 0 3

-- from 3 to 3
abbrev pub lone : Question
lone = ask (net_n sets_n) (cond_n 1) 3 3

-- its areas: as lent, and after no, one and two rounds
abbrev pub x : ℕ
x = 65535

abbrev pub blank : List ℕ
blank = 7 ∷ 7 ∷ 7 ∷ 7 ∷ 7 ∷ 7 ∷ 7 ∷ 7 ∷ 5 ∷ []

abbrev pub after0 : List ℕ
after0 = 0 ∷ x ∷ x ∷ x ∷ x ∷ x ∷ x ∷ x ∷ 5 ∷ []

abbrev pub after1 : List ℕ
after1 = 0 ∷ x ∷ 1 ∷ 1 ∷ 1 ∷ 1 ∷ x ∷ x ∷ 5 ∷ []

abbrev pub after2 : List ℕ
after2 = 0 ∷ x ∷ 1 ∷ 1 ∷ 1 ∷ 1 ∷ 2 ∷ 2 ∷ 5 ∷ []

abbrev pub lone0 : List ℕ
lone0 = x ∷ x ∷ x ∷ x ∷ x ∷ x ∷ 0 ∷ x ∷ 5 ∷ []

-- with tie 0 emptied, after one and two rounds; and the last area of N with word 7 set to 1
abbrev emptied1 : List ℕ
emptied1 = 0 ∷ x ∷ 1 ∷ x ∷ 1 ∷ 1 ∷ x ∷ x ∷ 5 ∷ []

abbrev emptied2 : List ℕ
emptied2 = 0 ∷ x ∷ 1 ∷ x ∷ 1 ∷ 1 ∷ 2 ∷ 2 ∷ 5 ∷ []

abbrev changed : List ℕ
changed = 0 ∷ x ∷ 1 ∷ 1 ∷ 1 ∷ 1 ∷ 2 ∷ 1 ∷ 5 ∷ []

-- a chain buffer: two words, and one past the least length
abbrev pub buf : ℕ → ℕ → List ℕ
buf a b = a ∷ b ∷ 9 ∷ []

abbrev pub o : List ℕ
o = buf 9 9

-- one state that starts and accepts, one kind, no tie and no move
abbrev bare : ℕ → ℕ → Question
bare v t = ask (record { marks = v; kinds = 1; froms = []; tos = []; sets = [] }) (record { states = 1; start = 1; accept = 1; moves = [] }) 0 t

-- a tie from the one mark to itself
abbrev loop : Question
loop = ask (record { marks = 1; kinds = 1; froms = 0 ∷ []; tos = 0 ∷ []; sets = 1 ∷ [] }) (record { states = 3; start = 1; accept = 4; moves = move 0 0 1 ∷ move 1 0 2 ∷ [] }) 0 0

unfoldable pub starred : List Session
starred =
    -- 1: Found 2 after two rounds; area 0, 65535, 1, 1, 1, 1, 2, 2
    session N blank o (
    step start (after 0 Going) after0 o
    ∷ step (round 0) (after 1 Going) after1 o
    ∷ step (round 1) (after 2 (Found 2)) after2 o ∷ [])
    -- 2: after one round words 6 and 7 are 65535, status Going
    ∷ session N after0 o (
    step (round 0) (after 1 Going) after1 o ∷ [])
    -- 3: the three chains, then End; chain 0 3 can be met in four ways and stands once
    ∷ session N after2 o (
    step (first 2) chain after2 (buf 0 3)
    ∷ step (next 2) chain after2 (buf 1 3)
    ∷ step (next 2) chain after2 (buf 2 4)
    ∷ step (next 2) end after2 (buf 2 4)
    ∷ step (ways_of (0 ∷ 3 ∷ [])) (ways_are 4) after2 (buf 2 4) ∷ [])
    -- 4: tie 0 emptied
    ∷ session (ask (net_n (0 ∷ 2 ∷ 1 ∷ 3 ∷ 2 ∷ [])) (cond_n 1) 0 3) blank o (
    step start (after 0 Going) after0 o
    ∷ step (round 0) (after 1 Going) emptied1 o
    ∷ step (round 1) (after 2 (Found 2)) emptied2 o
    ∷ step (first 2) chain emptied2 (buf 1 3)
    ∷ step (next 2) chain emptied2 (buf 2 4)
    ∷ step (next 2) end emptied2 (buf 2 4) ∷ [])
    -- 5: tie 3 with kind 1 only
    ∷ session (ask (net_n (3 ∷ 2 ∷ 1 ∷ 2 ∷ 2 ∷ [])) (cond_n 1) 0 3) blank o (
    step start (after 0 Going) after0 o
    ∷ step (round 0) (after 1 Going) after1 o
    ∷ step (round 1) (after 2 (Found 2)) after2 o
    ∷ step (first 2) chain after2 (buf 0 3)
    ∷ step (next 2) chain after2 (buf 2 4)
    ∷ step (next 2) end after2 (buf 2 4) ∷ [])
    -- 6: from 3 to 3
    ∷ session lone blank o (
    step start (after 0 Going) lone0 o
    ∷ step (round 0) (after 1 None) lone0 o
    ∷ step (first 1) none lone0 o ∷ [])
    -- 7: the empty chain
    ∷ session (bare 1 0) (7 ∷ 5 ∷ []) (9 ∷ []) (
    step start (after 0 (Found 0)) (0 ∷ 5 ∷ []) (9 ∷ [])
    ∷ step (first 0) chain (0 ∷ 5 ∷ []) (9 ∷ [])
    ∷ step (next 0) end (0 ∷ 5 ∷ []) (9 ∷ []) ∷ [])
    -- 8: no start state
    ∷ session (ask (net_n sets_n) (cond_n 0) 0 3) blank o (
    step start (after 0 None) (x ∷ x ∷ x ∷ x ∷ x ∷ x ∷ x ∷ x ∷ 5 ∷ []) o ∷ [])
    -- 9: two marks and no tie
    ∷ session (bare 2 1) (7 ∷ 7 ∷ 5 ∷ []) [] (
    step start (after 0 Going) (0 ∷ x ∷ 5 ∷ []) []
    ∷ step (round 0) (after 1 None) (0 ∷ x ∷ 5 ∷ []) [] ∷ [])
    -- 10: V×Q - 1
    ∷ session loop (7 ∷ 7 ∷ 7 ∷ 5 ∷ []) o (
    step start (after 0 Going) (0 ∷ x ∷ x ∷ 5 ∷ []) o
    ∷ step (round 0) (after 1 Going) (0 ∷ 1 ∷ x ∷ 5 ∷ []) o
    ∷ step (round 1) (after 2 (Found 2)) (0 ∷ 1 ∷ 2 ∷ 5 ∷ []) o
    ∷ step (first 2) chain (0 ∷ 1 ∷ 2 ∷ 5 ∷ []) (buf 0 0)
    ∷ step (next 2) end (0 ∷ 1 ∷ 2 ∷ 5 ∷ []) (buf 0 0) ∷ [])
    -- 11: a chain that is not listed; a chain buffer of one word
    ∷ session N after2 (buf 0 4) (
    step (next 2) (refused 11 0) after2 (buf 0 4) ∷ [])
    ∷ session N after2 (9 ∷ []) (
    step (first 2) (refused 10 2) after2 (9 ∷ [])
    ∷ step (next 2) (refused 10 2) after2 (9 ∷ []) ∷ [])
    -- 12: word 7 set to 1; unchanged with rounds 8, 9 and 1
    ∷ session N changed o (
    step (round 2) (refused 8 0) changed o
    ∷ step (first 2) (refused 8 0) changed o ∷ [])
    ∷ session N after2 o (
    step (round 8) (after 8 (Found 2)) after2 o
    ∷ step (round 9) (refused 8 0) after2 o
    ∷ step (round 1) (refused 8 0) after2 o ∷ [])
    ∷ []
