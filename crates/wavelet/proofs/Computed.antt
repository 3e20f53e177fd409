-- Visits, counted from the definitions: the nodes that begin a codeword, whatever row is asked.
use mathlib.Core.Path.{◌≡◌, refl}
use mathlib.Core.List.{[], ◌∷◌}
use Rattle.lists.specs.Lists.{values_from, filter}
use Rattle.fibonacci.specs.Code.{past, F, value, first, number, size, digits, codeword}
use Rattle.wavelet.specs.Nodes.{is_prefix, begins_some, is_node, prefixes, visits}

-- Order 2: of 1 to 3 with an alphabet of 3, and of 1 to 5 with one of 5
visits-counted : (values_from (visits 2 3) 1 3 ≡ 1 ∷ 2 ∷ 2 ∷ []) × (values_from (visits 2 5) 1 5 ≡ 2 ∷ 2 ∷ 3 ∷ 2 ∷ 3 ∷ [])
unfolding past F value first number size digits codeword filter is_prefix begins_some is_node prefixes visits
visits-counted = (refl, refl)
