-- `rounds::advance::advance` meets its contract: a turn lowers the row of mark v by what the ties into it offer, and writes it back.
use Rattle.std.proofs.Common.{ap, arith, length, subst, suc, sym, ℕ, ◌*◌, ◌∙◌, ◌≡◌}
use native.Mathlib.Numerals.{add-one}
use Rattle.tables.specs.Runs.{Cut}
use Rattle.rows.specs.Rows.{Put}
use Rattle.rounds.proofs.Advancing.{sofar_living, sofar_more, sofar_all}
use Rattle.rounds.proofs.Lending.{sized}
use Rattle.rounds.proofs.advance.advance.Goals as goal

pub offered-row-requires : goal.offered-row-requires
offered-row-requires c =
    let L = c.args.lent.now in
    let F = c.loop-v.invariant.1 in
    let living =
    sofar_living L.question L.steps.now.table c.args.area.now c.args.r c.alive.new.live c.loop-v.area c.loop-v.v
    (let h = c.requires.1 in omega arith) (rw c.of-words.ensures.2 at c.alive.ensures) F in
    (omega (arith, F.size, c.requires.0), living, c.tested-m.ensures.below, c.end-end.ensures.1, omega (arith, c.end-end.ensures.0.within, L.same))

pub loop-v-preserved : goal.loop-v-preserved
loop-v-preserved c =
    let L = c.args.lent.now in
    let Z = L.question in
    let Q = Z.condition.states in
    let v = c.loop-v.v in
    let n = length Z.to.now in
    let cut : Cut Z.to.now n (suc v) c.end-end.result =
    subst (λ (k : ℕ). Cut Z.to.now n (suc k) c.end-end.result) c.tested-m.ensures.is c.end-end.ensures.0 in
    let placed : c.place.result ≡ v * Q = c.place.ensures.0 ∙ ap (λ (k : ℕ). k * Q) c.tested-m.ensures.is in
    let put : Put c.loop-v.area c.write.new.area c.offered-row.result (v * Q) Q =
    subst (λ (k : ℕ). Put c.loop-v.area c.write.new.area c.offered-row.result k Q) placed c.write.ensures in
    let (o, row, low) = rw c.tested-m.ensures.is at c.offered-row.ensures in (
      rw add-one cut,
      sofar_more Z L.steps.now.table c.args.area.now c.args.r
          (sized Z.network.marks Z.network.kinds Q c.args.area.now L.few c.requires.0)
          (let few = c.requires.1 in omega arith) c.requires.2
          L.steps.now.sources c.alive.new.live n v c.loop-v.first c.end-end.result c.loop-v.area
          c.write.new.area o c.offered-row.result
          L.leads (rw c.of-words.ensures.2 at c.alive.ensures) (sym L.same) (rw c.tested-m.ensures.is at c.tested-m.ensures.below)
          c.loop-v.invariant.0 cut row low put c.loop-v.invariant.1,
    )

pub returns : goal.returns
returns c =
    let L = c.args.lent.now in
    let Z = L.question in
    let done : c.loop-v.v ≡ Z.network.marks = omega arith in
    sofar_all Z L.steps.now.table c.args.area.now c.args.r
    (sized Z.network.marks Z.network.kinds Z.condition.states c.args.area.now L.few c.requires.0)
    (let h = c.requires.1 in omega arith) c.requires.2 c.loop-v.v c.loop-v.area done c.loop-v.invariant.1
