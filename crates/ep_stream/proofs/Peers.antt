-- What begins to hold at an end of a socket pair and at its peer.
use Rattle.std.proofs.Common.{refl, ◌≡◌}
use Rattle.ep_base.specs.declared.object.End.TheVariants.{First, Second}
use Rattle.ep_base.specs.declared.object.End.{End}
use Rattle.ep_machine.specs.Bits.{beginning}
use Rattle.ep_machine.specs.Sockets.{SocketPair, own_beginning, pair_present, peer_beginning}
use Rattle.ep_stream.specs.Ends.{opposite}

pub own_begins : (p q : SocketPair) (e : End) → own_beginning p q e ≡ beginning (pair_present p e) (pair_present q e)
own_begins p q First = refl
own_begins p q Second = refl

pub peer_begins : (p q : SocketPair) (e : End) → peer_beginning p q e ≡ beginning (pair_present p (opposite e)) (pair_present q (opposite e))
peer_begins p q First = refl
peer_begins p q Second = refl
