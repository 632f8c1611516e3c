-- `rounds::area::right` meets its contract: the row of mark v that the loop makes is compared with that of the area, and tells whether mark v passes.
use Rattle.std.proofs.Common.{ap, arith, false, length, subst, suc, sym, true, ℕ, ◌+◌, ◌∙◌, ◌≡◌}
use native.Mathlib.Numerals.{add-one}
use Rattle.tables.specs.Runs.{Cut}
use Rattle.rows.specs.Rows.{row, opening, Row}
use Rattle.rounds.specs.Judged.{Tells}
use Rattle.rows.proofs.AliveLaws.{alive_living}
use Rattle.rounds.proofs.Judging.{Passed, passed-all, compared}
use Rattle.rounds.proofs.Lending.{sized}
use Rattle.rounds.proofs.area.right.Goals as goal
use Rattle.rounds.proofs.area.right.Goals.{After-differs}

pub invariant_of-offers : goal.invariant_of-offers
invariant_of-offers c =
    let L = c.args.lent.now in
    let Z = L.question in
    let words = c.of-words.ensures.2 in
    rw words record {
      few = L.few.1;
      ties = L.columns;
      living =
          alive_living c.alive.new.live c.args.area.now Z.network.marks Z.condition.states 0 _ (let h = c.requires.2 in omega arith)
          (rw words at c.alive.ensures);
      narrow = L.leads.narrow;
    }

-- where the ties into the mark after v begin
cut_after : (c : After-differs) → let to = c.args.lent.now.question.to.now in Cut to (length to) (suc c.loop-v.v) c.end-end.result
cut_after c =
    let to = c.args.lent.now.question.to.now in
    subst (λ (k : ℕ). Cut to (length to) (suc k) c.end-end.result) c.tested-m.ensures.is c.end-end.ensures.0

-- what the comparison tells
judged : (c : After-differs) → let L = c.args.lent.now in
    let v = c.loop-v.v in
    (c.differs.result ≡ false → Passed L.question L.steps.now.table c.args.area.now c.args.r v → Passed L.question L.steps.now.table c.args.area.now c.args.r (v + 1))
    × (c.differs.result ≡ true → Tells L.question L.steps.now.table false c.args.r c.args.area.now)
judged c =
    let L = c.args.lent.now in
    let A = c.args.area.now in
    let Z = L.question in
    let C = Z.condition in
    let v = c.loop-v.v in
    let size = sized Z.network.marks Z.network.kinds C.states A L.few c.requires.0 in
    let opened : Row c.opening-row.result C.states (opening Z.ask.from C.start v) =
    subst (λ (k : ℕ). Row c.opening-row.result C.states (opening k C.start v)) c.tested-s.ensures.is
    (subst (λ (k : ℕ). Row c.opening-row.result C.states (opening c.tested-s.result.0 C.start k)) c.tested-m.ensures.is c.opening-row.ensures) in
    let words = c.of-words.ensures.2 in
    let part : c.row.result.now ≡ row A C.states v = rw words at c.row.ensures.words ∙ ap (λ (k : ℕ). row A C.states k) c.tested-m.ensures.is in
    compared Z L.steps.now.table A c.args.r size c.requires.2 L.steps.now.sources c.alive.new.live (length Z.to.now) L.leads
    (rw words at c.alive.ensures) (sym L.same) v c.loop-v.first c.end-end.result c.opening-row.result c.lower_row.new.row _
    c.loop-v-test.true c.loop-v.invariant.0 (cut_after c) opened (rw words at c.lower_row.ensures) part c.differs.result c.differs.ensures

pub returns-then-differs : goal.returns-then-differs
returns-then-differs c = (judged (goal.at.returns-then-differs c).After-differs).1 c.if-differs.true

pub loop-v-preserved : goal.loop-v-preserved
loop-v-preserved c =
    let turn = (goal.at.loop-v-preserved c).After-differs in
    (rw add-one (cut_after turn), (judged turn).0 c.if-differs.false c.loop-v.invariant.1)

pub returns : goal.returns
returns c =
    let L = c.args.lent.now in
    let Z = L.question in
    let done : c.loop-v.v ≡ Z.network.marks = omega arith in
    passed-all Z L.steps.now.table c.args.area.now c.args.r
    (sized Z.network.marks Z.network.kinds Z.condition.states c.args.area.now L.few c.requires.0) c.requires.2 c.loop-v.v done c.loop-v.invariant.1
