-- Bytes made of parts, one behind the other, in an array of their length. Assumes nothing.
use mathlib.Core.Path.{◌≡◌, refl, sym, ap, ap₂, ◌∙◌}
use mathlib.Core.List.{List, [], ◌∷◌, ◌++◌, append-nil}
use Prim.Native.Nat.{ℕ, ◌+◌, ◌≤◌}
use native.Mathlib.Omega.{arith}
use borrow.Author.Rules.{rules}
use lib.ListN.{length, get_or, replicate, length-append, length-replicate, drop_of_length-le}
use Rattle.base.specs.Part.{part, put_at, put_in}
use Rattle.base.proofs.Parts.{length_put, put_put, put_first_of_all}
use Rattle.base.proofs.Copies.{put_in_lem}
use Rattle.image.specs.Item.{Item, block, mark, reel_end, three, bytes_of, encode_by, encode}
use Rattle.image.specs.Framing.{head}
use Rattle.image.proofs.RoundTrip.{encode_append}
use Rattle.label.specs.Name.{hdr1_name, hdr2_name, eov1_name, eov2_name, eof1_name, eof2_name}
use Rattle.label.specs.Made.{made_volume, made_first, made_second}
use Rattle.label.proofs.Read.{length_first, length_second}
use Rattle.sections.specs.Section.{headers, file_end, volume_end, image_head, entry_in, sequence_in, set_in}
use Rattle.sections.specs.Code.Pair.{pair_of}
use Rattle.sections.proofs.Lengths.{none, length_label, length_first_reel, length_mark, length_reel_end}

-- ---- parts one behind the other

module _ (n : ℕ) where
  abbrev blank : List ℕ
  blank = replicate n 0

  blank_long : length blank ≡ n
  blank_long = length-replicate n 0

  -- the first part, then another behind some, and at last all
  first : (x p : List ℕ) → length x ≤ n → p ≡ put_in blank 0 x → p ≡ put_at blank 0 x
  first x p h e = e ∙ put_in_lem blank 0 x (omega (arith, blank_long))

  more : (s y p q : List ℕ) (at : ℕ) → length s ≡ at → at + length y ≤ n → p ≡ put_at blank 0 s → q ≡ put_in p at y
      → q ≡ put_at blank 0 (s ++ y)
  more s y p q at h r e f =
      let kept : length p ≡ n = ap length e ∙ length_put blank 0 s (omega (arith, blank_long)) ∙ blank_long in
      let place : at ≡ 0 + length s = omega arith in
      f
      ∙ put_in_lem p at y (omega arith)
      ∙ ap₂ (λ (l : List ℕ) (k : ℕ). put_at l k y) e place
      ∙ put_put blank 0 s y (omega (arith, blank_long))

  all : (s p : List ℕ) → length s ≡ n → p ≡ put_at blank 0 s → p ≡ s
  all s p h e =
      let over : length blank ≤ length s = omega (arith, blank_long) in
      e ∙ put_first_of_all blank s ∙ ap (λ (l : List ℕ). s ++ l) (drop_of_length-le blank over) ∙ append-nil s

  -- two parts, and three
  pub filled_two : (x y p q : List ℕ) (a : ℕ) → length x ≡ a → a + length y ≡ n → p ≡ put_in blank 0 x → q ≡ put_in p a y
      → q ≡ x ++ y
  filled_two x y p q a h k e f =
      all (x ++ y) q (length-append x y ∙ omega arith) (more x y p q a h (omega arith) (first x p (omega arith) e) f)

  pub filled_three : (x y z p q r : List ℕ) (a b : ℕ) → length x ≡ a → a + length y ≡ b → b + length z ≡ n
      → p ≡ put_in blank 0 x → q ≡ put_in p a y → r ≡ put_in q b z
      → r ≡ (x ++ y) ++ z
  filled_three x y z p q r a b h k l e f g =
      let two : length (x ++ y) ≡ b = length-append x y ∙ omega arith in
      all ((x ++ y) ++ z) r (length-append (x ++ y) z ∙ omega arith)
      (more (x ++ y) z q r b two (omega arith) (more x y p q a h (omega arith) (first x p (omega arith) e) f) g)

  pub filled_four : (x y z w p q r s : List ℕ) (a b c : ℕ) → length x ≡ a → a + length y ≡ b → b + length z ≡ c
      → c + length w ≡ n
      → p ≡ put_in blank 0 x → q ≡ put_in p a y → r ≡ put_in q b z → s ≡ put_in r c w
      → s ≡ ((x ++ y) ++ z) ++ w
  filled_four x y z w p q r s a b c h k l m e f g i =
      let two : length (x ++ y) ≡ b = length-append x y ∙ omega arith in
      let three : length ((x ++ y) ++ z) ≡ c = length-append (x ++ y) z ∙ omega arith in
      all (((x ++ y) ++ z) ++ w) s (length-append ((x ++ y) ++ z) w ∙ omega arith)
      (more ((x ++ y) ++ z) w r s c three (omega arith)
      (more (x ++ y) z q r b two (omega arith) (more x y p q a h (omega arith) (first x p (omega arith) e) f) g) i)

-- ---- labels and marks

-- a label as an item
pub made_item : (l p q : List ℕ) → length l ≡ 80 → p ≡ put_in (replicate 83 0) 0 (0 ∷ 0 ∷ 80 ∷ []) → q ≡ put_in p 3 l
    → q ≡ encode (block l ∷ [])
unfolding encode encode_by bytes_of three
made_item l p q h e f =
    filled_two 83 (0 ∷ 0 ∷ 80 ∷ []) l p q 3 refl (omega arith) e f
    ∙ ap (λ (n : ℕ). three n ++ l) (sym h)
    ∙ sym (append-nil (three (length l) ++ l))

mark_alone : 0 ∷ 0 ∷ 0 ∷ [] ≡ encode (mark ∷ [])
unfolding encode encode_by bytes_of three
mark_alone = refl

-- two labels and the mark behind them have 169 bytes, with a mark before them 172
length_pair : (first second labels : List ℕ) (section count : ℕ)
    → length (encode (pair_of first second labels section count)) ≡ 169
length_pair first second labels section count =
    length_label _ _ 86 (length_first first (set_in labels) (entry_in labels) section (sequence_in labels) count)
    (length_label _ _ 3 (length_second second (entry_in labels)) (length_mark [] 0 none))

length_trailers : (first second labels : List ℕ) (section count : ℕ)
    → length (encode (mark ∷ pair_of first second labels section count)) ≡ 172
length_trailers first second labels section count = length_mark _ 169 (length_pair first second labels section count)

-- two labels, and the mark behind them
module _ (first second labels set e x y : List ℕ) (section n count : ℕ) where
  abbrev named : List ℕ
  named = made_first first (set_in labels) (entry_in labels) section (sequence_in labels) count

  abbrev other : List ℕ
  other = made_second second (entry_in labels)

  pub made_pair : (l m p q s : List ℕ) → e ≡ part 0 46 labels → set ≡ part 47 6 labels → n ≡ get_or labels 46 0
      → x ≡ made_first first set e section n count → y ≡ made_second second e
      → l ≡ encode (block x ∷ []) → m ≡ encode (block y ∷ [])
      → p ≡ put_in (replicate 169 0) 0 l → q ≡ put_in p 83 m → s ≡ put_in q 166 (0 ∷ 0 ∷ 0 ∷ [])
      → s ≡ encode (pair_of first second labels section count)
  made_pair l m p q s he hs hn hx hy hl hm a b c =
      let x' : x ≡ named = hx ∙ ap₂ (λ (t u : List ℕ). made_first first t u section n count) hs he ∙ ap (λ (k : ℕ). made_first first (set_in labels) (entry_in labels) section k count) hn in
      let y' : y ≡ other = hy ∙ ap (made_second second) he in
      let l' : l ≡ encode (block named ∷ []) = hl ∙ ap (λ (t : List ℕ). encode (block t ∷ [])) x' in
      let m' : m ≡ encode (block other ∷ []) = hm ∙ ap (λ (t : List ℕ). encode (block t ∷ [])) y' in
      let long : length l ≡ 83 = ap length l' ∙ length_label named [] 0 (length_first first (set_in labels) (entry_in labels) section (sequence_in labels) count) none in
      let wide : length m ≡ 83 = ap length m' ∙ length_label other [] 0 (length_second second (entry_in labels)) none in
      filled_three 169 l m (0 ∷ 0 ∷ 0 ∷ []) p q s 83 166 long (omega arith) refl a b c
      ∙ ap₂ (λ (t u : List ℕ). (t ++ u) ++ (0 ∷ 0 ∷ 0 ∷ [])) l' m'
      ∙ ap₂ (λ (t u : List ℕ). t ++ u) (sym (encode_append (block named ∷ []) (block other ∷ []))) mark_alone
      ∙ sym (encode_append (block named ∷ block other ∷ []) (mark ∷ []))

-- a mark, two labels, and a mark
pub made_trailers : (first second labels l p q : List ℕ) (section count : ℕ)
    → l ≡ encode (pair_of first second labels section count)
    → p ≡ put_in (replicate 172 0) 0 (0 ∷ 0 ∷ 0 ∷ []) → q ≡ put_in p 3 l
    → q ≡ encode (mark ∷ pair_of first second labels section count)
made_trailers first second labels l p q section count h a b =
    let long : length l ≡ 169 = ap length h ∙ length_pair first second labels section count in
    filled_two 172 (0 ∷ 0 ∷ 0 ∷ []) l p q 3 refl (omega arith) a b
    ∙ ap₂ (λ (t u : List ℕ). t ++ u) mark_alone h
    ∙ sym (encode_append (mark ∷ []) (pair_of first second labels section count))

-- ---- what the writer takes

-- the head of an image, and the first volume label
pub made_head : (name v l p q : List ℕ) → v ≡ made_volume name → l ≡ encode (block v ∷ []) → p ≡ put_in (replicate 88 0) 0 head
    → q ≡ put_in p 5 l
    → q ≡ image_head name
unfolding image_head
made_head name v l p q hv hl a b =
    let l' : l ≡ encode (block (made_volume name) ∷ []) = hl ∙ ap (λ (t : List ℕ). encode (block t ∷ [])) hv in
    let long : length l ≡ 83 = ap length l' ∙ length_first_reel name in
    filled_two 88 head l p q 5 refl (omega arith) a b ∙ ap (λ (t : List ℕ). head ++ t) l'

pub made_headers : (labels r : List ℕ) (section : ℕ) → r ≡ encode (pair_of hdr1_name hdr2_name labels section 0)
    → r ≡ encode (headers (set_in labels) (entry_in labels) section (sequence_in labels))
unfolding headers
made_headers labels r section h = h

pub made_file_end : (labels r : List ℕ) (section count : ℕ) → r ≡ encode (mark ∷ pair_of eof1_name eof2_name labels section count)
    → r ≡ encode (file_end (set_in labels) (entry_in labels) section (sequence_in labels) count)
unfolding file_end
made_file_end labels r section count h = h

pub made_reel_end : 0 ∷ 0 ∷ 0 ∷ 255 ∷ 255 ∷ 255 ∷ [] ≡ encode (mark ∷ reel_end ∷ [])
unfolding encode encode_by bytes_of three
made_reel_end = refl

-- all that stands between two reels
pub made_change : (labels : List ℕ) (section count next : ℕ) (name end over v l begin p q r s : List ℕ)
    → end ≡ encode (mark ∷ pair_of eov1_name eov2_name labels section count) → over ≡ encode (mark ∷ reel_end ∷ [])
    → v ≡ made_volume name → l ≡ encode (block v ∷ [])
    → begin ≡ encode (pair_of hdr1_name hdr2_name labels next 0)
    → p ≡ put_in (replicate 430 0) 0 end → q ≡ put_in p 172 over → r ≡ put_in q 178 l → s ≡ put_in r 261 begin
    → s ≡ encode (volume_end (set_in labels) (entry_in labels) section (sequence_in labels) count ++
    (block (made_volume name) ∷ headers (set_in labels) (entry_in labels) next (sequence_in labels)))
unfolding volume_end headers
made_change labels section count next name end over v l begin p q r s he ho hv hl hb a b c d =
    let trailers : List Item = mark ∷ pair_of eov1_name eov2_name labels section count in
    let volume : List Item = block (made_volume name) ∷ [] in
    let l' : l ≡ encode volume = hl ∙ ap (λ (t : List ℕ). encode (block t ∷ [])) hv in
    let ends : length end ≡ 172 = ap length he ∙ length_trailers eov1_name eov2_name labels section count in
    let closes : length over ≡ 6 = ap length ho ∙ length_reel_end in
    let names : length l ≡ 83 = ap length l' ∙ length_first_reel name in
    let begins : length begin ≡ 169 = ap length hb ∙ length_pair hdr1_name hdr2_name labels next 0 in
    filled_four 430 end over l begin p q r s 172 178 261 ends (omega arith) (omega arith) (omega arith) a b c d
    ∙ ap₂ (λ (t u : List ℕ). (t ++ u) ++ begin)
    (ap₂ (λ (t u : List ℕ). t ++ u) he ho ∙ sym (encode_append trailers (mark ∷ reel_end ∷ []))) l'
    ∙ ap₂ (λ (t u : List ℕ). t ++ u) (sym (encode_append (trailers ++ (mark ∷ reel_end ∷ [])) volume)) hb
    ∙ sym (encode_append ((trailers ++ (mark ∷ reel_end ∷ [])) ++ volume) (pair_of hdr1_name hdr2_name labels next 0))

pub ruleset made =
    (made_item, made_pair, made_trailers, made_head, made_headers, made_file_end, made_reel_end, made_change, rules)
