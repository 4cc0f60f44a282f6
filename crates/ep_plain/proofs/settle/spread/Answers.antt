use Rattle.std.proofs.Common.{◌∙◌, ℕ, IsSome, ap, arith, refl, subst, sym}
use Rattle.ep_alarms.specs.Alarms.{AreSet, LosesDying}
use Rattle.ep_calls.specs.Burial.{Burial}
use Rattle.ep_calls.specs.Parts.{Parts}
use Rattle.ep_choice.proofs.NotesLostLemmas.{guards_placed, notes_after, notes_then, placed_stirred, stay_risen as stay_numbers}
use Rattle.ep_choice.proofs.SuitsLemmas.{suits_left, were_risen, were_stirred}
use Rattle.ep_plain.proofs.BuryLemmas.{each_buried}
use Rattle.ep_plain.proofs.SpreadLemmas.{fits_stay, loses_between, stay_risen, stay_stirred}
use Rattle.ep_table.specs.Value.{number_under}
use Rattle.ep_plain.proofs.settle.spread.Goals as goal

pub bury-requires : goal.bury-requires
bury-requires c =
    let mid = c.args.parts.now in
    let noted = c.raise.new.parts.interest in
    let d = c.args.dating.now in
    let were = were_stirred c.args.raising mid.tables mid.clock c.args.step mid.interest noted c.raise.ensures.stirs in
    record {
      fits = fits_stay mid.interest noted (stay_stirred c.args.raising mid.tables mid.clock c.args.step mid.interest noted c.raise.ensures.stirs) d d c.requires.fits refl refl refl refl
          (suits_left mid.interest noted d.choice d.choice were refl refl refl c.requires.fits.choice) c.requires.fits.lost;
    }

pub returns-clause-spreads : goal.returns-clause-spreads
returns-clause-spreads c =
    let n = c.args.step in
    let mid = c.args.parts.now in
    let noted = c.raise.new.parts in
    let buried = c.bury.new.parts in
    let left = c.climb.new.parts in
    let stirred = stay_stirred c.args.raising mid.tables mid.clock n mid.interest noted.interest c.raise.ensures.stirs in
    let climbed = stay_risen n buried.tables buried.interest left.interest c.climb.ensures.rises c.climb.ensures.keys in
    let burial = c.bury.ensures.burial in
    let each = each_buried n noted.tables buried.tables noted.interest buried.interest burial c.bury.ensures.ids c.know-2.ensures.interest c.know-3.ensures.interest c.know-2.ensures.coherent.linked in
    record {
      spreads = record {
        noted = noted.interest;
        buried = buried;
        leaves = record {
          coherent = c.know.ensures.coherent;
          tables = c.know.ensures.tables;
          raises = c.requires.raises;
          stirs = c.raise.ensures.stirs;
          keys = c.raise.ensures.keys;
          burial = subst (λ (p : Parts). Burial n p.tables p.interest buried.tables buried.interest) c.raise.ensures.others burial;
          ids = c.bury.ensures.ids;
          was = c.know.ensures.interest;
          then_sound = c.know-2.ensures.interest;
          left = c.know-3.ensures.interest;
          parked = c.bury.ensures.parked ∙ ap (λ (p : Parts). p.parked) c.raise.ensures.others;
          clock = c.bury.ensures.clock ∙ ap (λ (p : Parts). p.clock) c.raise.ensures.others;
          coherent_buried = c.know-3.ensures.coherent;
          tables_buried = c.know-3.ensures.tables;
        };
        rises = c.climb.ensures.rises;
        keys = c.climb.ensures.keys;
        sound = c.know-4.ensures.interest;
        others = c.climb.ensures.others;
      };
      reached = c.climb.ensures.reached;
      loses = loses_between mid.interest noted.interest buried.interest left.interest c.args.dating.now.dates (record c.bury.new.dating.dates { turned = c.bury.new.dating.gone }) stirred each (let same = burial.buries.added in omega (arith, same)) climbed
          c.requires.fits.kept c.bury.ensures.loses;
      fits = fits_stay buried.interest left.interest climbed c.bury.new.dating _ c.bury.ensures.fits refl c.climb.ensures.room refl refl
          (suits_left buried.interest left.interest c.bury.new.dating.choice c.bury.new.dating.choice (were_risen n buried.tables buried.interest left.interest c.climb.ensures.rises c.climb.ensures.keys) refl refl refl c.bury.ensures.fits.choice)
          c.bury.ensures.fits.lost;
      altered = c.bury.ensures.altered;
      lost =
          let raised = guards_placed mid noted (ap (λ (p : Parts). p.tables) c.raise.ensures.others) (placed_stirred c.args.raising mid.tables mid.clock n mid.interest noted.interest c.raise.ensures.stirs) in
          let ks = c.args.dating.now.choice.lost.reached in
          let ls = c.bury.new.dating.choice.lost.reached in
          notes_then mid buried left ks ls (λ d lives. subst (λ (p : Parts). IsSome (number_under p.tables d)) c.climb.ensures.others lives)
          (stay_numbers n buried.tables buried.interest left.interest c.climb.ensures.rises) (notes_after mid noted buried ks ls raised c.bury.ensures.lost);
    }

pub returns-clause-set : goal.returns-clause-set
returns-clause-set c =
    let noted = c.raise.new.parts in
    let buried = c.bury.new.parts in
    let a = c.raise.new.self in
    let b = c.drop_dying.new.self in
    let set = c.burial_leaves_alarms.ensures c.args.step noted.tables buried.tables noted.interest buried.interest noted.clock a b c.bury.ensures.burial c.know-3.ensures.tables c.raise.ensures.set (subst (λ (p : Parts). LosesDying p.tables a b) c.parts.view_is c.drop_dying.ensures) in
    subst (λ (p : Parts). AreSet p.tables p.clock b) (sym c.climb.ensures.others) (subst (λ (n : ℕ). AreSet buried.tables n b) (sym c.bury.ensures.clock) set)
