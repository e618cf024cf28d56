use Rattle.std.proofs.Common.{refl}
use Rattle.std.specs.Fmt.{digits}
use Rattle.iol_texts.specs.Texts.{hex_digits}
use Rattle.iol_explain.proofs.examples.values.Goals as goal

pub returns-clause-upload : goal.returns-clause-upload
unfolding digits hex_digits
returns-clause-upload c = refl

pub returns-clause-download : goal.returns-clause-download
unfolding digits hex_digits
returns-clause-download c = refl

pub returns-clause-locked : goal.returns-clause-locked
unfolding digits hex_digits
returns-clause-locked c = refl

pub returns-clause-property_of_two : goal.returns-clause-property_of_two
unfolding digits hex_digits
returns-clause-property_of_two c = refl

pub returns-clause-size_of_none : goal.returns-clause-size_of_none
unfolding digits hex_digits
returns-clause-size_of_none c = refl

pub returns-clause-checksum_of_three : goal.returns-clause-checksum_of_three
unfolding digits hex_digits
returns-clause-checksum_of_three c = refl

pub returns-clause-command : goal.returns-clause-command
unfolding digits hex_digits
returns-clause-command c = refl

pub returns-clause-unnamed : goal.returns-clause-unnamed
unfolding digits hex_digits
returns-clause-unnamed c = refl
