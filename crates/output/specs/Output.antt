-- What writing into a lent buffer does, and what is answered. One write lays its bytes down where all of them have room, and else
-- leaves the buffer as it was lent (`Put`). Of several writes, each at the place behind the one before, so much is kept: the
-- length of the buffer, the place behind, and all of the bytes where all of them have room (`Wrote`). Document 01, "Numbers given
-- back": 10 where the buffer is too short; bytes behind what is written stay; a refusal changes no lent byte.
use Rattle.std.specs.Prelude.{◌≡◌, List, ◌++◌, ℕ, ◌+◌, ◌≤◌, ◌<◌, min, leb, ltb, length, take, drop}
use Rattle.base.specs.If.{if_b}
use Rattle.base.specs.Part.{put_at, put_in}
use Rattle.base.specs.Answer.{verdict}
use Rattle.base.specs.declared.Verdict.{Verdict}
use Rattle.output.specs.declared.Written.{Written as Answer}

-- buffer o with bs at place a, if all of it has room there and ends before place `most`
unfoldable pub put_below : ℕ → List ℕ → ℕ → List ℕ → List ℕ
put_below most o a bs = if_b (ltb (a + length bs) most) (put_in o a bs) o

-- one write of bs at place a, after which buffer o is p, and r is the place behind, or `most`
pub record Put (most : ℕ) (o : List ℕ) (a : ℕ) (bs p : List ℕ) (r : ℕ) : Type 0 where
  pub place : r ≡ min (a + length bs) most
  pub held : p ≡ put_below most o a bs

-- writes of bs, one behind the other from place a on, after which buffer o is p, and r is the place behind, or `most`
pub record Wrote (most : ℕ) (o : List ℕ) (a : ℕ) (bs p : List ℕ) (r : ℕ) : Type 0 where
  pub kept : length p ≡ length o
  pub place : r ≡ min (a + length bs) most
  pub done : r < most → r ≤ length o → p ≡ put_at o a bs

-- what writing gives: the number, the length of what was written (0 with a refusal), and what the lent buffer then holds
pub record Written : Type 0 where
  pub number : ℕ
  pub len : ℕ
  pub out : List ℕ

unfoldable pub refused : ℕ → List ℕ → Written
refused n out = record { number = n; len = 0; out = out }

-- bytes at the front of a lent buffer: 10 where it is too short
abbrev pub fitted : List ℕ → List ℕ → Written
fitted s out =
    if_b (leb (length s) (length out)) (record { number = 0; len = length s; out = s ++ drop (length s) out }) (refused 10 out)

-- ---- where a refusal may have a place: in the image that is rewritten, in the tape that is converted

-- the answer, the length of what was written (0 with a refusal), and what the lent buffer then holds
pub record Result : Type 0 where
  pub verdict : Verdict
  pub len : ℕ
  pub out : List ℕ

unfoldable pub refused_with : Verdict → List ℕ → Result
refused_with v out = record { verdict = v; len = 0; out = out }

-- what writing gives has place 0
unfoldable pub placed : Written → Result
placed w = record { verdict = verdict w.number 0 0; len = w.len; out = w.out }

-- the image that was written
unfoldable pub image_in : Result → List ℕ
image_in r = take r.len r.out

-- ---- the answer of the code

-- a refusal, and so many bytes written
unfoldable pub refusal_of : ℕ → Answer
refusal_of n = record { verdict = verdict n 0 0; len = 0 }

unfoldable pub written_of : ℕ → Answer
written_of n = record { verdict = verdict 0 0 0; len = n }

-- what the code answers, and the buffer behind it, are what writing gives
pub record Answers (w : Written) (r : Answer) (p : List ℕ) : Type 0 where
  pub said : r.verdict ≡ verdict w.number 0 0
  pub len : r.len ≡ w.len
  pub out : p ≡ w.out

pub record AnswersAt (w : Result) (r : Answer) (p : List ℕ) : Type 0 where
  pub said : r.verdict ≡ w.verdict
  pub len : r.len ≡ w.len
  pub out : p ≡ w.out
