use Rattle.tap_world.proofs.laws.name_stands_once.Goals as goal

pub returns : goal.returns
returns c = λ s w n sound. sound.names.once n
