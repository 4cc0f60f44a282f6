use Rattle.std.proofs.Common.{◌≡◌, ◌∙◌, ◌<◌, IsSome, ℕ, ap, refl, subst, sym}
use Rattle.ep_alarms.specs.Alarms.{AreSet, LosesDying as LosesTimers}
use Rattle.ep_calls.specs.Burial.{Burial}
use Rattle.ep_calls.specs.Parts.{Parts}
use Rattle.ep_calls.specs.Ends.{Leaves}
use Rattle.ep_calls.specs.Stands.{AreLinked}
use Rattle.ep_choice.proofs.NotesLostLemmas.{guards_placed, notes_after, notes_buried, notes_then, placed_stirred, stay_risen}
use Rattle.ep_choice.proofs.SuitsLemmas.{WereIn, room_dying, suits_left, were_both, were_buried, were_risen, were_stirred}
use Rattle.ep_choice.specs.Lost.{NotesLost}
use Rattle.ep_choice.specs.Room.{HaveRoom, Suits}
use Rattle.ep_choice.specs.declared.choice.Choice.{Choice}
use Rattle.ep_climb.specs.Reach.{AreRoomy}
use Rattle.ep_kernel.proofs.BesideLemmas.{alike_map, alike_then, both_then}
use Rattle.ep_kernel.proofs.RoomLemmas.{room_rest, suits_reached, with_reached_lost}
use Rattle.ep_kernel.proofs.SurvivalLemmas.{places_left}
use Rattle.ep_kernel.specs.Beside.{Alike}
use Rattle.ep_kernel.specs.Places.{LosesDying}
use Rattle.ep_kernel.specs.Stands.{HasRoom}
use Rattle.ep_kernel.specs.declared.beside.Beside.{Beside}
use Rattle.ep_table.specs.Value.{Seen, number_under}
use Rattle.ep_kernel.proofs.settle.spread.Goals as goal
use Rattle.ep_kernel.proofs.settle.spread.Goals.{After-drop_dying, After-know-2, After-know-3}

-- what the dead left
leaves : (c : After-know-3) → Leaves c.args.step c.args.raising c.args.parts.now c.raise.new.parts.interest c.bury.new.self
leaves c =
    let is : c.raise.new.parts ≡ record c.args.parts.now { interest = c.raise.new.parts.interest } = c.raise.ensures.others in
    record {
      coherent = c.know.ensures.coherent;
      tables = c.know.ensures.tables;
      raises = c.requires.raises;
      stirs = c.raise.ensures.stirs;
      keys = c.raise.ensures.keys;
      burial = subst (λ (p : Parts). Burial c.args.step p.tables p.interest c.bury.new.self.tables c.bury.new.self.interest) is c.bury.ensures.burial;
      ids = c.bury.ensures.ids;
      was = c.know.ensures.interest;
      then_sound = c.know-2.ensures.interest;
      left = c.know-3.ensures.interest;
      parked = c.bury.ensures.parked ∙ ap (λ (p : Parts). p.parked) is;
      clock = c.bury.ensures.clock ∙ ap (λ (p : Parts). p.clock) is;
      coherent_buried = c.know-3.ensures.coherent;
      tables_buried = c.know-3.ensures.tables;
    }

-- what is noted is noted at registrations that were there
were_noted : (c : After-know-2) → WereIn c.args.parts.now.interest c.raise.new.parts.interest
were_noted c =
    let p = c.args.parts.now in
    were_stirred c.args.raising p.tables p.clock c.args.step p.interest c.raise.new.parts.interest c.raise.ensures.stirs

-- nothing but places goes with the dead
room_left : (c : After-drop_dying) → HasRoom c.args.parts.now.interest c.drop_dying.new.beside
room_left c = room_rest c.args.parts.now.interest c.args.beside.now c.drop_dying.new.beside c.drop_dying.ensures.rest c.requires.fits.room

pub note_dying-requires : goal.note_dying-requires
note_dying-requires c =
    let at = goal.at.note_dying-requires c in
    let choice = c.drop_dying.new.beside.choice in
    record { room = (suits_left c.args.parts.now.interest c.raise.new.parts.interest choice choice (were_noted at.After-know-2) refl refl refl (room_left at.After-drop_dying).choice).lost }

-- what the dead leave was there, too
were_left : (c : After-know-3) → WereIn c.args.parts.now.interest c.bury.new.self.interest
were_left c =
    let p = c.args.parts.now in
    let noted = c.raise.new.parts.interest in
    let buried = c.bury.new.self in
    let h = leaves c in
    let linked : AreLinked p.tables noted = subst (λ (v : Seen). AreLinked v noted) (ap (λ (q : Parts). q.tables) c.raise.ensures.others) c.know-2.ensures.coherent.linked in
    were_both p.interest noted buried.interest (were_stirred c.args.raising p.tables p.clock c.args.step p.interest noted h.stirs) (were_buried c.args.step p.tables buried.tables noted buried.interest h.burial h.ids h.then_sound linked)

-- the places that go with the dead
gone : (c : After-drop_dying) → Alike (LosesDying c.args.parts.now.tables c.raise.new.parts.interest) c.args.beside.now c.drop_dying.new.beside
gone c = alike_map (λ l m. subst (λ (p : Parts). LosesDying p.tables p.interest l m) c.raise.ensures.others) c.drop_dying.ensures.alike

pub climb-requires-clause-places : goal.climb-requires-clause-places
climb-requires-clause-places c =
    let at = goal.at.climb-requires-clause-places c in
    let placed = both_then (λ l m have loses. places_left c.args.step c.args.raising c.args.parts.now c.raise.new.parts.interest c.bury.new.self (leaves at.After-know-3) l m loses have) c.requires.fits.places (gone at.After-drop_dying) in
    record { lists = placed.lists; hopes = placed.hopes }

pub climb-requires-clause-room : goal.climb-requires-clause-room
climb-requires-clause-room c =
    let at = goal.at.climb-requires-clause-room c in
    let r = c.args.parts.now.interest in
    let b = c.drop_dying.new.beside in
    let reached = with_reached_lost b in
    (suits_left r c.bury.new.self.interest reached reached (were_left at.After-know-3) refl refl refl (suits_reached r b (room_left at.After-drop_dying))).lost

pub returns-clause-spreads : goal.returns-clause-spreads
returns-clause-spreads c =
    let at = goal.at.returns-clause-spreads c in
    let climbs = c.climb.ensures.climbs in
    record {
      spreads = record {
        noted = c.raise.new.parts.interest;
        buried = c.bury.new.self;
        leaves = leaves at.After-know-3;
        rises = c.climb.ensures.rises;
        keys = c.climb.ensures.keys;
        sound = c.know-4.ensures.interest;
        others = c.climb.ensures.others;
      };
      beside = alike_then (λ l m k loses gains. record { between = m; loses = loses; gains = gains }) (gone at.After-drop_dying) (record { lists = climbs.gains.lists; hopes = climbs.gains.hopes });
      reached = climbs.reached;
    }

pub returns-clause-set : goal.returns-clause-set
returns-clause-set c =
    let noted = c.raise.new.parts in
    let buried = c.bury.new.self in
    let a = c.raise.new.self in
    let b = c.drop_dying-2.new.self in
    let set = c.burial_leaves_alarms.ensures c.args.step noted.tables buried.tables noted.interest buried.interest noted.clock a b c.bury.ensures.burial c.know-3.ensures.tables c.raise.ensures.set (subst (λ (p : Parts). LosesTimers p.tables a b) c.parts.view_is c.drop_dying-2.ensures) in
    subst (λ (p : Parts). AreSet p.tables p.clock b) (sym c.climb.ensures.others) (subst (λ (n : ℕ). AreSet buried.tables n b) (sym c.bury.ensures.clock) set)

pub returns-clause-room : goal.returns-clause-room
returns-clause-room c =
    let at = goal.at.returns-clause-room c in
    let r = c.args.parts.now.interest in
    let noted = c.raise.new.parts in
    let left = c.climb.new.parts.interest in
    let b = c.drop_dying.new.beside in
    let lost = c.note_dying.new.lost in
    let climbs = c.climb.ensures.climbs in
    let room = room_left at.After-drop_dying in
    let were = were_both r c.bury.new.self.interest left (were_left at.After-know-3) (were_risen c.args.step c.bury.new.self.tables c.bury.new.self.interest left c.climb.ensures.rises c.climb.ensures.keys) in
    let noted_roomy : AreRoomy noted.interest b.reached = (suits_left r noted.interest (with_reached_lost b) (with_reached_lost b) (were_noted at.After-know-2) refl refl refl (suits_reached r b room)).lost in
    let dying = c.note_dying.ensures in
    let has = room_dying noted dying.0 b.choice.lost lost b.reached c.know-2.ensures.interest noted_roomy dying.2 room.lost in
    record {
      reached = (suits_left r left (with_reached_lost b) (record b.choice { lost = c.climb.new.beside.reached }) were refl refl climbs.room (suits_reached r b room)).lost;
      choice = subst (Suits left) (sym climbs.choice) (suits_left r left b.choice (record b.choice { lost = lost }) were refl refl dying.2.room room.choice);
      lost = subst (λ (x : Choice). HaveRoom x.lost.reached c.climb.new.beside.reached) (sym climbs.choice) (λ i t. subst (λ (k : ℕ). i < k) (sym climbs.room) (has i t));
    }

pub returns-clause-lost : goal.returns-clause-lost
returns-clause-lost c =
    let n = c.args.step in
    let mid = c.args.parts.now in
    let noted = c.raise.new.parts in
    let buried = c.bury.new.self in
    let left = c.climb.new.parts in
    let b = c.drop_dying.new.beside in
    let was = b.choice.lost in
    let is = c.note_dying.new.lost in
    let dying = c.note_dying.ensures in
    let guards = guards_placed mid noted (ap (λ (p : Parts). p.tables) c.raise.ensures.others) (placed_stirred c.args.raising mid.tables mid.clock n mid.interest noted.interest c.raise.ensures.stirs) in
    let loses = notes_buried n noted buried c.bury.ensures.burial c.know-3.ensures.tables c.know-2.ensures.coherent.linked dying.0 dying.1 was is dying.2 in
    let notes =
    notes_then mid buried left was.reached is.reached (λ d. subst (λ (p : Parts). IsSome (number_under p.tables d)) c.climb.ensures.others)
    (stay_risen n buried.tables buried.interest left.interest c.climb.ensures.rises) (notes_after mid noted buried was.reached is.reached guards loses) in
    subst (λ (x : Choice). NotesLost mid left x.lost.reached c.climb.new.beside.choice.lost.reached) (ap (λ (x : Beside). x.choice) c.drop_dying.ensures.rest)
    (subst (λ (x : Choice). NotesLost mid left was.reached x.lost.reached) (sym c.climb.ensures.climbs.choice) notes)
