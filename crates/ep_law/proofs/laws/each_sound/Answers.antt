use Rattle.ep_law.proofs.SoundLemmas.{sound_run}
use Rattle.ep_law.proofs.laws.each_sound.Goals as goal

pub returns : goal.returns
returns c = record { law = sound_run }
