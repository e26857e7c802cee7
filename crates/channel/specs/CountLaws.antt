-- How many nets a channel has.
use Rattle.std.specs.Prelude.{◌≤◌, length}
use Rattle.lists.specs.Eaches.{few-kept}
use Rattle.channel.specs.Channel.{Channel, highest_net, nets}

pub nets-few : (ch : Channel) → length (nets ch) ≤ highest_net
unfolding nets
nets-few ch = few-kept _ highest_net
