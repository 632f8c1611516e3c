-- The claims hold, each by computing.
use mathlib.Core.Path.{refl}
use mathlib.Core.List.{flat_map}
use Rattle.walk.specs.Numbers.{has, ◌and◌, any_below, least, table, only_below, set_below, tally, same}
use Rattle.walk.specs.Condition.{starts, accepts, follows}
use Rattle.walk.specs.Area as A
use Rattle.walk.specs.Chains as C
use Rattle.walk.specs.Question as Q
use Rattle.walk.specs.Refusals as R
use Rattle.walk.specs.Calls as K
use Rattle.walk.specs.Sessions.{run, play, sum_below, ways_from, ways}
use Rattle.walk.specs.Cases.{starred}
use Rattle.walk.specs.OwnCases.{own}
use Rattle.walk.specs.Claims.{Claims}

pub claims : Claims
unfolding starred own run play ways ways_from sum_below has ◌and◌ any_below least table only_below set_below tally same Q.usable starts accepts follows A.leads A.into A.reach A.word A.area A.pairs_at A.smallest A.status C.before flat_map C.rows C.sieve C.member C.after_of C.joins C.along C.reached C.fits C.list Q.right Q.status Q.listing R.bad_sizes R.bad_tie_at R.late_at R.bad_states R.bad_move_at R.sizes R.bad_tie R.tie_order R.bad_condition R.bad_move R.bad_ends R.short_area R.wrong_area R.unfinished R.short_chain R.not_listed R.lent_tests R.start_tests R.round_tests R.list_tests R.first_tests R.next_tests K.judged K.progress K.prepared K.start K.round K.first K.next
claims = record {
  starred_cases = refl;
  own_cases = refl;
  start_numbers = refl;
  round_numbers = refl;
  first_numbers = refl;
  next_numbers = refl;
  exactly_one = refl;
  exactly_two = refl;
  exactly_three = refl;
  last_decides = refl;
  not_the_first = refl;
  started = refl;
  once = refl;
  twice = refl;
  listed = refl;
  lone_started = refl;
  lone_once = refl;
  refused = refl;
}
