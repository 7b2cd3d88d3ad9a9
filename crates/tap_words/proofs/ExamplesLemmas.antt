-- The examples, computed.
use Rattle.std.proofs.Common.{refl}
use Rattle.text_fields.specs.Numbers.{number_of}
use Rattle.clap.proofs.OnLiterals.{clap_on_literals}
use Rattle.tap_words.specs.Examples.{Options, Refused}
use Rattle.tap_words.specs.Words.{asked_by, given}

pub options : Options
unfolding clap_on_literals number_of asked_by given
options = (refl, refl, refl, refl, refl, refl)

pub refused : Refused
unfolding clap_on_literals number_of asked_by given
refused = (refl, refl, refl, refl, refl, refl, refl, refl, refl, refl, refl, refl)
