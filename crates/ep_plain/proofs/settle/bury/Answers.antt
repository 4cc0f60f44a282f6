use Rattle.std.proofs.Common.{refl, subst, sym}
use Rattle.ep_choice.proofs.NotesLostLemmas.{notes_buried}
use Rattle.ep_choice.proofs.SuitsLemmas.{room_dying, suits_left, were_buried}
use Rattle.ep_dates.specs.Dates.{Dates}
use Rattle.ep_plain.proofs.BuryLemmas.{each_buried, loses_buried}
use Rattle.ep_plain.proofs.SpreadLemmas.{fits_handed, handed_back}
use Rattle.ep_plain.specs.Loses.{Loses}
use Rattle.ep_plain.proofs.settle.bury.Goals as goal

loses : (c : goal.After-hand_over) → Loses c.args.parts.now.interest c.bury.new.self.interest c.args.dating.now.dates c.drop_dying.new.dates
loses c =
    let dropped = c.drop_dying.ensures in
    loses_buried c.args.step c.args.parts.now.tables c.bury.new.self.tables c.args.parts.now.interest c.bury.new.self.interest c.bury.ensures.burial c.bury.ensures.ids c.know.ensures.interest c.know-2.ensures.interest c.know.ensures.coherent.linked dropped.0 dropped.1
    c.args.dating.now.dates c.drop_dying.new.dates dropped.2

pub returns-clause-loses : goal.returns-clause-loses
returns-clause-loses c =
    subst (λ (e : Dates). Loses c.args.parts.now.interest c.bury.new.self.interest c.args.dating.now.dates e)
    (sym (handed_back c.drop_dying.new.dates c.hand_over.new.self c.args.dating.now.gone c.hand_over.new.noted c.hand_over.ensures.dates c.hand_over.ensures.walk)) (loses c)

pub returns-clause-fits : goal.returns-clause-fits
returns-clause-fits c =
    let r = c.args.parts.now.interest in
    let q = c.bury.new.self.interest in
    let each = each_buried c.args.step c.args.parts.now.tables c.bury.new.self.tables r q c.bury.ensures.burial c.bury.ensures.ids c.know.ensures.interest c.know-2.ensures.interest c.know.ensures.coherent.linked in
    let d = c.args.dating.now in
    let noted = c.note_dying.ensures in
    let were = were_buried c.args.step c.args.parts.now.tables c.bury.new.self.tables r q c.bury.ensures.burial c.bury.ensures.ids c.know.ensures.interest c.know.ensures.coherent.linked in
    fits_handed r q each d _ c.drop_dying.new.dates c.requires.fits (loses c).kept c.hand_over.ensures.dates c.hand_over.ensures.walk refl refl
    (suits_left r q d.choice (record d.choice { lost = c.note_dying.new.lost }) were refl refl noted.2.room c.requires.fits.choice)
    (room_dying c.args.parts.now noted.0 d.choice.lost c.note_dying.new.lost d.reached c.know.ensures.interest c.requires.fits.reached noted.2 c.requires.fits.lost)

pub returns-clause-lost : goal.returns-clause-lost
returns-clause-lost c =
    let noted = c.note_dying.ensures in
    notes_buried c.args.step c.args.parts.now c.bury.new.self c.bury.ensures.burial c.know-2.ensures.tables c.know.ensures.coherent.linked noted.0 noted.1 c.args.dating.now.choice.lost c.note_dying.new.lost noted.2
