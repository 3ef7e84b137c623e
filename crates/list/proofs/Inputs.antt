-- The text on an input, by its length. Assumes nothing.
use mathlib.Core.Path.{◌≡◌, sym, ap, ◌∙◌, subst}
use mathlib.Core.List.{List}
use Prim.Native.Nat.{ℕ, ◌≤◌, ◌<◌}
use borrow.Author.Rules.{rules}
use borrow.Author.Tests.{lt-ltb, le-ltb}
use lib.ListN.{length}
use Rattle.base.proofs.Ifs.{if_true, if_false}
use Rattle.base.specs.Answer.{verdict}
use Rattle.base.specs.declared.Verdict.{Verdict}
use Rattle.output.specs.Output.{fitted, Answers}
use Rattle.output.specs.declared.Written.{Written as Answer}
use Rattle.listing.specs.Text.{refusal_line, text_of}
use Rattle.list.specs.Code.Input.{input_text}

pub input_long : (s out : List ℕ) (v : Verdict) (a : Answer) (p : List ℕ) → 60000 < length s → v ≡ verdict 9 0 0
    → Answers (fitted (refusal_line v) out) a p → Answers (fitted (input_text s) out) a p
unfolding input_text
input_long s out v a p h e c =
    subst (λ (text : List ℕ). Answers (fitted text out) a p)
    (ap refusal_line e ∙ sym (if_true _ _ _ (lt-ltb 60000 (length s) h))) c

pub input_image : (s out : List ℕ) (a : Answer) (p : List ℕ) → length s ≤ 60000 → Answers (fitted (text_of s) out) a p
    → Answers (fitted (input_text s) out) a p
unfolding input_text
input_image s out a p h c =
    subst (λ (text : List ℕ). Answers (fitted text out) a p) (sym (if_false _ _ _ (le-ltb 60000 (length s) h))) c

pub ruleset inputs = (input_long, input_image, rules)
