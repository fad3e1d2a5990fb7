-- Text by the definitions: bytes that are escaped and bytes that are not, and the largest number of 64 bits.
use mathlib.Core.Path.{◌≡◌, refl}
use mathlib.Core.List.{[], ◌∷◌}
use Rattle.text.specs.Text.{text, decimal_by, decimal}
use Rattle.text.specs.Escaping.{is_plain, escaped_byte, escaped}

examples : (escaped (0x2F ∷ 0x20 ∷ 0x25 ∷ 0x00 ∷ 0x7F ∷ 0xFF ∷ 0x21 ∷ 0x7E ∷ []) ≡ text "/%20%25%00%7F%FF!~")
    × (decimal 18446744073709551615 ≡ text "18446744073709551615")
unfolding is_plain escaped_byte escaped decimal_by
examples = (refl, refl)
