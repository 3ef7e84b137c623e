-- Length words as they are written. Assumes nothing.
use mathlib.Core.Path.{◌≡◌, ap, ◌∙◌}
use mathlib.Core.List.{List}
use Prim.Native.Nat.{ℕ, ◌+◌, ◌≤◌, ◌<◌, min}
use native.Mathlib.Omega.{arith}
use lib.ListN.{length}
use Rattle.base.specs.Part.{put_at, put_in}
use Rattle.base.proofs.Copies.{put_in_lem}
use Rattle.image.specs.Item.{three}

-- where it is known to have room, and a word can say it
pub length_word_put : (o : List ℕ) (at n : ℕ) (q : List ℕ) → at + 3 ≤ length o → n < 16777216
    → q ≡ put_in o at (three (min n 16777215))
    → q ≡ put_at o at (three n)
unfolding three
length_word_put o at n q r h e =
    let all : min n 16777215 ≡ n = omega arith in
    e ∙ ap (λ (k : ℕ). put_in o at (three k)) all ∙ put_in_lem o at (three n) r
