-- Words read byte by byte.
use Rattle.std.proofs.Common.{◌≡◌, ℕ, List, length, sym, ap}
use Rattle.std.proofs.lemmas.Slice.Eq.{HasBytesAt, text_from_reads}

-- What bytes stand for that are a word.
pub spelt_as : {A : Type 0} (means : List ℕ → A) (bytes word : List ℕ) → length bytes ≡ length word → HasBytesAt bytes 0 word
    → means word ≡ means bytes
spelt_as means bytes word n h = ap means (sym (text_from_reads bytes word n h))
