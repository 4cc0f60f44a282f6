-- What events leave beside the parts, and what their refusals do to lists.
use Rattle.std.proofs.Common.{◌≡◌, [], Err, IfOk, List, Ok, Result, ap, map, refl, subst, sym, ℕ}
use Rattle.ep_base.specs.declared.answer.Answer.TheVariants.{Refused}
use Rattle.ep_base.specs.declared.call.Event.{Event}
use Rattle.ep_base.specs.declared.errno.Errno.{Errno}
use Rattle.ep_calls.specs.Parts.{Parts}
use Rattle.ep_calls.specs.declared.outcome.Outcome.{Outcome}
use Rattle.ep_calls.specs.Wait.{with_report}
use Rattle.ep_calls.specs.declared.control.Plan.{Plan}
use Rattle.ep_choice.specs.Lost.{NotesLost, deleted_by, with_home}
use Rattle.ep_choice.specs.declared.choice.Choice.{Choice}
use Rattle.ep_kernel.proofs.ControlTurnsLemmas.{same_lists}
use Rattle.ep_kernel.proofs.HopesGoLemmas.{hopes_kept, hopes_same, hopes_stay}
use Rattle.ep_kernel.proofs.ReportsFirstLemmas.{refused_reports}
use Rattle.ep_kernel.proofs.RoomLemmas.{room_kept, room_noted, room_same}
use Rattle.ep_kernel.proofs.StillSuitsLemmas.{LosesDeleted, LosesNone, StillSuits, loses_reported, loses_same, loses_stay, suits_reported, suits_same, suits_stay}
use Rattle.ep_kernel.proofs.WaitTurnsLemmas.{places_reported, refused_turns}
use Rattle.ep_kernel.specs.Event.{LeavesBeside, StaysBeside, TurnsInOrder}
use Rattle.ep_kernel.specs.Listed.{HopesFor, IsListed}
use Rattle.ep_kernel.specs.Stands.{HasRoom, StandsBeside}
use Rattle.ep_kernel.specs.Turns.{AlteredStand, HopesGo}
use Rattle.ep_kernel.specs.declared.asked.Asked.{Asked}
use Rattle.ep_kernel.specs.declared.beside.Beside.{Beside}
use Rattle.ep_ready.specs.ReadyLists.{Lists}
use Rattle.ep_walk.specs.Walk.{Walk}

-- where what is reached and the choice stay
module _ (event : Event) (p q : Parts) (b c : Beside) (reached : c.reached ≡ b.reached) (choice : c.choice ≡ b.choice) (room : HasRoom p.interest b) where
  pub leaves_by : HopesGo event p q c.asked.hopes → StillSuits p.interest q.interest → LosesNone p q → LeavesBeside event p b q c
  leaves_by hopes suits loses = record {
    hopes = hopes;
    room = room_kept p.interest q.interest c suits (room_same p.interest b c reached choice room);
    lost = subst (λ (x : Choice). NotesLost p q b.choice.lost.reached x.lost.reached) (sym choice) (loses b.choice.lost.reached);
  }

  -- and the parts
  pub leaves_stay : q ≡ p → HopesFor p c.asked.hopes → LeavesBeside event p b q c
  leaves_stay same hopes = leaves_by (hopes_stay event p q c.asked.hopes same hopes) (suits_stay p q same) (loses_stay p q same)

-- where all stays but what no registration sees
pub leaves_same : (event : Event) (p q : Parts) (b : Beside) → StandsBeside p b → q.interest ≡ p.interest → AlteredStand event p q b.asked.hopes → LeavesBeside event p b q b
leaves_same event p q b stands same altered = leaves_by event p q b b refl refl stands.room (hopes_same event p q b.asked.hopes stands.hopes same altered) (suits_same p.interest q.interest same) (loses_same p q same)

-- where what a DEL takes is noted
pub leaves_noted : (event : Event) (plan : Plan) (p q : Parts) (b c : Beside) (lost : Walk) → lost ≡ with_home (deleted_by plan p) b.choice.lost → c.reached ≡ b.reached → c.choice ≡ record b.choice { lost = lost } → HasRoom p.interest b
    → HopesGo event p q c.asked.hopes → StillSuits p.interest q.interest → LosesDeleted plan p q → LeavesBeside event p b q c
leaves_noted event plan p q b c lost is reached choice room hopes suits loses =
    let noted : Beside = record b { choice = record b.choice { lost = lost } } in
    let was = b.choice.lost in
    record {
      hopes = hopes;
      room = room_kept p.interest q.interest c suits (room_same p.interest noted c reached choice (room_noted plan.operation plan.found p b lost is room));
      lost = subst (λ (x : Choice). NotesLost p q was.reached x.lost.reached) (sym choice) (subst (λ (w : Walk). NotesLost p q was.reached w.reached) (sym is) (loses was));
    }

-- where there is room, and what is lost stays
pub leaves_widened : (event : Event) (p q : Parts) (b c : Beside) → c.choice.lost.reached ≡ b.choice.lost.reached → HopesGo event p q c.asked.hopes → HasRoom q.interest c → LosesNone p q → LeavesBeside event p b q c
leaves_widened event p q b c kept hopes room loses = record { hopes = hopes; room = room; lost = subst (NotesLost p q b.choice.lost.reached) (sym kept) (loses b.choice.lost.reached) }

-- where some are reported
pub leaves_reported : (event : Event) (p q : Parts) (b c : Beside) (n : ℕ) (ks : List ℕ) → c.reached ≡ b.reached → c.choice ≡ b.choice → q.interest.keys ≡ p.interest.keys → q.interest.entries ≡ map (with_report n ks) p.interest.entries → StandsBeside p b → HopesFor p c.asked.hopes
    → AlteredStand event p q c.asked.hopes → LeavesBeside event p b q c
leaves_reported event p q b c n ks reached choice keys entries stands hopes altered =
    leaves_by event p q b c reached choice stands.room (hopes_kept event p q c.asked.hopes hopes (places_reported p q c.asked.hopes n ks keys entries hopes.places) altered) (suits_reported p q n ks entries keys) (loses_reported p q n ks entries)

-- whatever was asked before
pub leaves_asked : (event : Event) (p q : Parts) (b c : Beside) (a : Asked) → LeavesBeside event p (record b { asked = a }) q c → LeavesBeside event p b q c
leaves_asked event p q b c a h = record { hopes = h.hopes; room = h.room; lost = h.lost }

pub stays_asked : (p q : Parts) (b c : Beside) (a : Asked) → StaysBeside p (record b { asked = a }) q c → StaysBeside p b q c
stays_asked p q b c a h = record { parts = h.parts; lists = h.lists; lost = h.lost }

pub stands_asked : (p : Parts) (b : Beside) (a : Asked) → StandsBeside p b → HopesFor p a.hopes → StandsBeside p (record b { asked = a })
stands_asked p b a h hopes = record { listed = h.listed; hopes = hopes; room = room_same p.interest b (record b { asked = a }) refl refl h.room }

-- where nothing changes
pub leaves_all : (event : Event) (p : Parts) (b : Beside) → StandsBeside p b → LeavesBeside event p b p b
leaves_all event p b stands = leaves_stay event p p b b refl refl stands.room refl stands.hopes

-- where lists, the choice and the parts stay
pub stays_by : (p q : Parts) (b c : Beside) → c.lists ≡ b.lists → c.choice ≡ b.choice → q ≡ p → StaysBeside p b q c
stays_by p q b c lists choice same = record { parts = same; lists = same_lists b.lists c.lists lists; lost = ap (λ (x : Choice). x.lost.reached) choice }

-- a refusal
pub turns_refused : (n caller : ℕ) (event : Event) (outcome : Outcome) (p : Parts) (l : Lists) (errno : Errno) → IsListed p l → outcome.answer ≡ Refused errno → outcome.picked ≡ [] → TurnsInOrder n caller event outcome p l p l
turns_refused n caller event outcome p l errno listed answer picked = record { turns = refused_turns event outcome.picked p l listed picked; order = refused_reports l n caller event outcome p p l errno answer }

-- what holds of each answer in two parts
pub ok_both : {T E : Type 0} {P Q R : T → Type 0} (r : Result T E) → ((x : T) → P x → Q x → R x) → IfOk r P → IfOk r Q → IfOk r R
ok_both (Ok x) f p q = f x p q
ok_both (Err e) f p q = tt
