use Rattle.std.proofs.Common.{◌≡◌, ℕ, List, rules, subst, sym}
use Rattle.std.specs.Result.{IsOk}
use Rattle.std.specs.Str.{IsUtf8}
use Rattle.hex.specs.Hex.{encode_lower}
use Rattle.sync_words.proofs.IdText.{digits_are_text, is_read, with_value}
use Rattle.sync_words.proofs.digits.add_id.Goals as goal

pub unwrap-text-requires : goal.unwrap-text-requires
unwrap-text-requires c =
    let id : List ℕ = c.id.inside.0 in
    let fits : IsOk c.encode_to_slice.result = c.encode_to_slice.ensures.fits.1 (search rules) in
    let written : c.encode_to_slice.new.output ≡ encode_lower id = with_value c.encode_to_slice.result _ c.encode_to_slice.ensures.written fits in
    is_read c.from_utf8.result c.encode_to_slice.new.output _ _ c.from_utf8.ensures.cases (subst IsUtf8 (sym written) (digits_are_text id))
