-- Every text of the table gives what stands beside it: by computation.
use mathlib.Core.Path.{◌≡◌, refl}
use mathlib.Core.List.{map}
use Rattle.text.specs.Reading.{digits_on, number_in, ended_by, constant_in, constant_next, field_in, words_in, head_in, forms, lines_in, read}
use Rattle.text.specs.Examples.{bytes, examples}

pub examples_right : map (λ x. read (bytes x.text)) examples ≡ map (λ x. x.gives) examples
unfolding bytes digits_on number_in ended_by constant_in constant_next field_in words_in head_in forms lines_in read
examples_right = refl
