-- What is due after what. Document 01, "What a reel holds, in order":
-- 1. VOL1; optional VOL2 to VOL9; optional UVL1 to UVL9.
-- 2. HDR1, HDR2; optional HDR3 to HDR9; up to nine UHL; a mark.
-- 3. Data blocks, none or more; a mark.
-- 4. EOF1, EOF2 (or EOV1, EOV2); optional same-named 3 to 9; up to nine UTL; a mark.
-- 5. After EOF: back to step 2, or a second mark and the end of the reel, which ends the set. After EOV: a second mark and the
-- end of
--    the reel; the file goes on at the next reel.
-- House: the limit nine; optional labels, but for UHL and UTL, are numbered upward without a gap; only the last reel ends with
-- EOF.
--
-- No byte of a label stands here: another alphabet or label version uses it unchanged.
use Rattle.std.specs.Prelude.{List, [], ◌∷◌, ℕ, ◌+◌, ltb, Option, Some, None}
use Rattle.base.specs.If.{if_b}
use Rattle.order.specs.Kind.{vol, uvl, hdr, uhl, eof, eov, utl, data_block, tape_mark, end_of_reel, end_of_image, is_kind}
use Rattle.order.specs.declared.Kind.{Kind}
use Rattle.order.specs.declared.Phase.{Phase}
use Rattle.order.specs.declared.Phase.TheVariants.{Reel, Volume, UserVolume, FirstHeader, Header, UserHeader, Data, Trailer, FirstEof, Eof, EofUser, FirstEov, Eov, EovUser, FileEnd, VolumeEnd, SetClosed, ReelClosed, Over, Accepted}

-- a kind that is due, and the phase behind it
pub record DueItem : Type 0 where
  pub item : Kind
  pub phase : Phase

abbrev pub turn : Kind → Phase → DueItem
turn k p = record { item = k; phase = p }

-- one more optional label behind n of them: the limit is nine
unfoldable pub up_to_nine : ℕ → DueItem → List DueItem → List DueItem
up_to_nine n t ts = if_b (ltb n 9) (t ∷ ts) ts

-- what is due in each phase
unfoldable pub dues : Phase → List DueItem
dues Reel = turn (vol 1) (Volume 1) ∷ []
dues (Volume n) = up_to_nine n (turn (vol (n + 1)) (Volume (n + 1))) (turn (uvl 1) (UserVolume 1) ∷ turn (hdr 1) FirstHeader ∷ [])
dues (UserVolume n) = up_to_nine n (turn (uvl (n + 1)) (UserVolume (n + 1))) (turn (hdr 1) FirstHeader ∷ [])
dues FirstHeader = turn (hdr 2) (Header 2) ∷ []
dues (Header n) = up_to_nine n (turn (hdr (n + 1)) (Header (n + 1))) (turn uhl (UserHeader 1) ∷ turn tape_mark Data ∷ [])
dues (UserHeader n) = up_to_nine n (turn uhl (UserHeader (n + 1))) (turn tape_mark Data ∷ [])
dues Data = turn data_block Data ∷ turn tape_mark Trailer ∷ []
dues Trailer = turn (eof 1) FirstEof ∷ turn (eov 1) FirstEov ∷ []
dues FirstEof = turn (eof 2) (Eof 2) ∷ []
dues (Eof n) = up_to_nine n (turn (eof (n + 1)) (Eof (n + 1))) (turn utl (EofUser 1) ∷ turn tape_mark FileEnd ∷ [])
dues (EofUser n) = up_to_nine n (turn utl (EofUser (n + 1))) (turn tape_mark FileEnd ∷ [])
dues FirstEov = turn (eov 2) (Eov 2) ∷ []
dues (Eov n) = up_to_nine n (turn (eov (n + 1)) (Eov (n + 1))) (turn utl (EovUser 1) ∷ turn tape_mark VolumeEnd ∷ [])
dues (EovUser n) = up_to_nine n (turn utl (EovUser (n + 1))) (turn tape_mark VolumeEnd ∷ [])
dues FileEnd = turn (hdr 1) FirstHeader ∷ turn tape_mark SetClosed ∷ []
dues VolumeEnd = turn tape_mark ReelClosed ∷ []
dues SetClosed = turn end_of_reel Over ∷ []
dues ReelClosed = turn end_of_reel Reel ∷ []
dues Over = turn end_of_image Accepted ∷ []
dues Accepted = []

-- the phase behind an item of this kind, if it is due
unfoldable pub choose : List DueItem → Kind → Option Phase
choose [] k = None
choose (t ∷ ts) k = if_b (is_kind k t.item) (Some t.phase) (choose ts k)

unfoldable pub due_after : Phase → Kind → Option Phase
due_after p k = choose (dues p) k
