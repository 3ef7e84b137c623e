-- What the listing program writes of its standard input. Document 01, "One whole set": 60,000 bytes at most, else number 9.
use Rattle.std.specs.Prelude.{List, ℕ, ltb, length}
use Rattle.base.specs.If.{if_b}
use Rattle.base.specs.Answer.{verdict}
use Rattle.listing.specs.Text.{refusal_line, text_of}

unfoldable pub input_text : List ℕ → List ℕ
input_text s = if_b (ltb 60000 (length s)) (refusal_line (verdict 9 0 0)) (text_of s)
