-- Room for what an event notes of the registrations.
use Rattle.std.proofs.Common.{◌≡◌, ◌∙◌, ℕ, List, [], Option, ap, arith, subst, sym}
use Rattle.std.proofs.lemmas.Bool.{false≢true}
use Rattle.ep_base.specs.Limits.{Limits}
use Rattle.ep_base.specs.declared.ids.EntryId.{EntryId}
use Rattle.ep_base.specs.declared.mask.Mask.{Mask}
use Rattle.ep_calls.specs.Parts.{AreOpening, Parts}
use Rattle.ep_calls.specs.declared.control.Named.{Named}
use Rattle.ep_calls.specs.declared.control.Operation.{Operation}
use Rattle.ep_choice.proofs.SuitsLemmas.{room_deleted, room_for, suits_widened}
use Rattle.ep_choice.specs.Lost.{deleted_home, with_home}
use Rattle.ep_choice.specs.Room.{HasRoomFor as CanChoose, HaveRoom, Suits}
use Rattle.ep_choice.specs.declared.choice.Choice.{Choice}
use Rattle.ep_climb.specs.Reach.{AreRoomy}
use Rattle.ep_interest.specs.Registrations.{Registrations}
use Rattle.ep_kernel.proofs.StillSuitsLemmas.{StillSuits, suits_noted, suits_opening}
use Rattle.ep_kernel.specs.Beside.{HasRoomFor, KeepsRest, Widens}
use Rattle.ep_kernel.specs.Stands.{HasRoom}
use Rattle.ep_kernel.specs.declared.beside.Beside.{Beside}
use Rattle.ep_machine.specs.Lists.{is_among}
use Rattle.ep_walk.specs.Walk.{Walk}

-- a choice that notes what was lost in the walk of what was reached
abbrev pub with_reached_lost : Beside → Choice
with_reached_lost b = record b.choice { lost = b.reached }

pub suits_reached : (r : Registrations) (b : Beside) → HasRoom r b → Suits r (with_reached_lost b)
suits_reached r b h = record { candidates = h.choice.candidates; targets = h.choice.targets; lost = h.reached }

-- the room that is there is room for the registrations that are left
pub room_kept : (r s : Registrations) (b : Beside) → StillSuits r s → HasRoom r b → HasRoom s b
room_kept r s b still h = record { reached = (still (with_reached_lost b) (suits_reached r b h)).lost; choice = still b.choice h.choice; lost = h.lost }

pub room_same : (r : Registrations) (b c : Beside) → c.reached ≡ b.reached → c.choice ≡ b.choice → HasRoom r b → HasRoom r c
room_same r b c reached choice h = record {
  reached = subst (AreRoomy r) (sym reached) h.reached;
  choice = subst (Suits r) (sym choice) h.choice;
  lost = subst (λ (w : Walk). HaveRoom c.choice.lost.reached w) (sym reached) (subst (λ (x : Choice). HaveRoom x.lost.reached b.reached) (sym choice) h.lost);
}

pub room_rest : (r : Registrations) (b c : Beside) → KeepsRest b c → HasRoom r b → HasRoom r c
room_rest r b c rest = room_same r b c (ap (λ (x : Beside). x.reached) rest) (ap (λ (x : Beside). x.choice) rest)

-- once there is more
pub room_widened : (r : Registrations) (b c : Beside) → Widens b c → HasRoom r b → HasRoom r c
room_widened r b c w h = record {
  reached = λ id x at. let lt = h.reached id x at in let le = w.reached in omega (arith, lt, le);
  choice = suits_widened r b.choice c.choice w.choice h.choice;
  lost = room_for b.choice.lost.reached c.choice.lost.reached b.reached c.reached w.choice.kept w.reached h.lost;
}

-- once a registration is added
pub room_added : (r s : Registrations) (b : Beside) (named : Named) (mask : Mask) (key : ℕ) → ((c : Choice) → CanChoose c named mask key → Suits r c → Suits s c) → HasRoomFor b named mask key → HasRoom r b → HasRoom s b
room_added r s b named mask key adds room h = record {
  reached = (adds (with_reached_lost b) (record { lost = room.reached; targets = room.choice.targets; candidates = room.choice.candidates }) (suits_reached r b h)).lost;
  choice = adds b.choice room.choice h.choice;
  lost = h.lost;
}

-- once what a DEL takes is noted
pub room_noted : (operation : Operation) (found : Option EntryId) (p : Parts) (b : Beside) (lost : Walk) → lost ≡ with_home (deleted_home operation found p) b.choice.lost → HasRoom p.interest b → HasRoom p.interest (record b { choice = record b.choice { lost = lost } })
room_noted operation found p b lost is h = record {
  reached = h.reached;
  choice = suits_noted p.interest b.choice (deleted_home operation found p) lost is h.choice;
  lost = subst (λ (w : Walk). HaveRoom w.reached b.reached) (sym is) (room_deleted operation found p b.choice.lost b.reached h.reached h.lost);
}

-- and at the start
pub room_opening : (limits : Limits) (p : Parts) (b : Beside) → AreOpening limits p → b.choice.lost.reached ≡ [] → HasRoom p.interest b
room_opening limits p b opens unlost = record {
  reached = (suits_opening limits p opens (with_reached_lost b)).lost;
  choice = suits_opening limits p opens b.choice;
  lost = λ i t. absurd (false≢true (ap (λ (ks : List ℕ). is_among ks i) (sym unlost) ∙ t));
}
