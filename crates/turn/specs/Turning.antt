-- What the code of a turn promises, over the five lent lists.
-- Assumes nothing.
use Rattle.std.specs.Prelude.{◌≡◌}
use Rattle.base.specs.Choice.{pick}
use Rattle.context.specs.Lists.{Lists, AllHeld, maps_in, places_of}
use Rattle.context.specs.Turn.{Turned, no_maps, counts_of}
use Rattle.outcome.specs.Outcome.{with_counts, is_refused}
use Rattle.walk.specs.declared.Walk.{Walk}

-- what is left once a refused walk's lists are cleared
abbrev pub left : Walk → Lists → Turned
left w l =
    pick (is_refused w.result) (record { walk = with_counts (counts_of no_maps) w; maps = no_maps }) (record { walk = w; maps = maps_in w.counts l })

-- the code came to this walk, and has cleared no list
pub record Looks (r : Walk) (before after : Lists) (t : Turned) : Type 0 where
  pub held : AllHeld r.counts after
  pub places : places_of after ≡ places_of before
  pub says : left r after ≡ t

-- the code left this walk and these lists
pub record Turns (r : Walk) (before after : Lists) (t : Turned) : Type 0 where
  pub walks : r ≡ t.walk
  pub held : AllHeld r.counts after
  pub places : places_of after ≡ places_of before
  pub maps : maps_in r.counts after ≡ t.maps
