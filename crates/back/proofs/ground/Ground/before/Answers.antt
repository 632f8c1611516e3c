-- `Ground::before` meets its contract: at each place some tie is usable, so one is picked, and a turn fills one place with it.
use Rattle.std.proofs.Common.{arith, length-set, refl, sym, ◌∙◌, ◌-◌}
use Rattle.back.specs.Ground.{net, back}
use Rattle.back.specs.Chain.{Surely}
use Rattle.back.proofs.FillLaws.{surely_is, surely_there, fillable-first, fillable-rest, fill_more, fill_none}
use Rattle.back.proofs.ground.Ground.before.Goals as goal
use Rattle.back.proofs.ground.Ground.before.Goals.{After-unwrap-taken}

-- what is taken is the smallest usable tie
taken_is : (c : After-unwrap-taken) → Surely (net c.args.self.now) (back c.args.self.now) c.loop-i.at.mark.0 (c.loop-i.i - 1) c.loop-i.at.alive
    c.unwrap-taken.result.tie.0 c.unwrap-taken.result.alive
taken_is c = surely_is _ _ _ _ _ c.unwrap-taken.result (sym c.pick.ensures ∙ c.unwrap-taken.ensures)

pub unwrap-taken-requires : goal.unwrap-taken-requires
unwrap-taken-requires c =
    let L = c.loop-i in
    let h = fillable-first _ _ L.i (L.i - 1) L.at.mark.0 L.at.alive (omega arith) L.invariant.3 in
    rw (c.pick.ensures ∙ surely_there _ _ _ _ _ h) refl

pub word-requires : goal.word-requires
word-requires c =
    let S = taken_is (goal.at.word-requires c).After-unwrap-taken in
    let g = c.args.self.now in
    omega (arith, S.tie_in, g.few)

pub leaves-requires : goal.leaves-requires
leaves-requires c =
    let S = taken_is (goal.at.leaves-requires c).After-unwrap-taken in
    (S.tie_in, c.args.self.now.columns.from_in _ S.tie_in)

pub loop-i-preserved : goal.loop-i-preserved
loop-i-preserved c =
    let L = c.loop-i in
    let S = taken_is (goal.at.loop-i-preserved c).After-unwrap-taken in
    let j = L.i - 1 in (
      omega arith,
      length-set L.chain j c.word.result ∙ L.invariant.1,
      c.leaves.ensures.below,
      rw c.leaves.ensures.is (fillable-rest _ _ L.i j L.at.mark.0 L.at.alive _ _ (omega arith) L.invariant.3 S),
      rw (c.leaves.ensures.is, c.word.ensures) (fill_more _ _ L.chain L.i j L.at.mark.0 L.at.alive _ _ (omega arith) (omega arith) S ∙ L.invariant.4),
    )

pub returns : goal.returns
returns c =
    let L = c.loop-i in
    sym (fill_none _ _ L.chain L.at.mark.0 L.at.alive L.i (omega arith)) ∙ L.invariant.4
