-- Connections are let go that wait where nobody will accept them.
use Rattle.std.specs.Prelude.{List, [], bit_or, ℕ, ◌++◌, ◌∷◌, ◌≡◌}
use Rattle.ep_machine.specs.Connections.{let_all_go, pending_in}
use Rattle.ep_machine.specs.Files.{Files}
use Rattle.ep_machine.specs.Spread.{raised_of}
use Rattle.ep_table.specs.Value.{AreLive, Things, content_of, files_in, losses_of}

-- what waits at the objects of these descriptions
abbrev pub pending_of : Files → List ℕ → List ℕ
pending_of s [] = []
pending_of s (d ∷ ds) = pending_in (content_of s d) ++ pending_of s ds

-- these go, and what that raises is added
pub record LetsGo (old new : Things) (ks : List ℕ) : Type 0 where
  pub rest : new ≡ record old { objects = (let_all_go (files_in old, []) ks).0.objects; losses = new.losses }
  pub raised : (d : ℕ) → raised_of (losses_of old.keys new.losses) d
      ≡ bit_or (raised_of (losses_of old.keys old.losses) d) (raised_of (let_all_go (files_in old, []) ks).1 d)
  pub live : AreLive old.keys old.losses → AreLive old.keys new.losses
