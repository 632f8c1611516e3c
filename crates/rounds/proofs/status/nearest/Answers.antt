-- `status::nearest` meets its contract: an accepting state's word is one more that `best` is the least of, and with all words taken `best` is the
-- nearest.
use Rattle.std.proofs.Common.{arith, length, ◌≡◌}
use Rattle.rounds.proofs.Standing.{near_none, near_skip, near_word, near_end}
use Rattle.rounds.proofs.status.nearest.Goals.{then-among, else-among}
use Rattle.rounds.proofs.status.nearest.Goals as goal

pub loop-q-init : goal.loop-q-init
loop-q-init c = near_none c.args.words.now c.args.accept _

pub loop-q-preserved : goal.loop-q-preserved
loop-q-preserved c =
    let among = c.tested.ensures.is in
    elim c.if-among.branch [
      | then-among w ↦ rw (w.best-is, w.min-best.ensures) (near_word _ _ _ _ _ c.loop-q.invariant (rw among at w.if-among.ensures))
      | else-among w ↦ rw w.best-is (near_skip _ _ _ _ _ c.loop-q.invariant (rw among at w.if-among.ensures))
    ]

pub returns : goal.returns
returns c =
    let e : c.loop-q.q ≡ length c.args.words.now = omega arith in
    near_end _ _ _ _ _ (rw e at c.loop-q.invariant)
