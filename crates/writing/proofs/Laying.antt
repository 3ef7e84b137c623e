-- Items that are laid down are read to the end. Assumes nothing.
use Rattle.std.specs.Prelude.{Some}
use mathlib.Core.Path.{◌≡◌, refl, sym, ap, ◌∙◌, subst}
use mathlib.Core.Bool.{Bool, true, false}
use mathlib.Core.List.{List, [], ◌∷◌, ◌++◌}
use Prim.Native.Nat.{ℕ, suc, ◌+◌, ◌<◌}
use native.Mathlib.Omega.{arith}
use borrow.Author.Tests.{ne_eqb, le-leb}
use lib.Dec.{eqb}
use lib.ListN.{length}
use Rattle.base.specs.If.{if_b}
use Rattle.base.proofs.Ifs.{if_true, if_false, and_true}
use Rattle.base.specs.Answer.{verdict}
use Rattle.image.specs.Item.{Item, block, mark, reel_end}
use Rattle.image.specs.Code.Items.{is_item, all_items}
use Rattle.image.specs.Framing.{framed_from}
use Rattle.order.specs.Kind.{hdr, vol, data_block, is_kind}
use Rattle.order.specs.Due.{dues, choose, up_to_nine, due_after}
use Rattle.order.specs.declared.Phase.{Phase}
use Rattle.order.specs.declared.Phase.TheVariants.{Reel as ReelDue, FirstHeader, Header, Data, Trailer, Eof, Eov, FileEnd, VolumeEnd, ReelClosed}
use Rattle.label.specs.Name.{hdr1_name, hdr2_name, eov1_name, eov2_name, eof1_name, eof2_name}
use Rattle.label.specs.Judged.{label_fault}
use Rattle.label.specs.Made.{made_volume, made_first, made_second}
use Rattle.volume.specs.State.{State}
use Rattle.volume.specs.Fault.{is_among}
use Rattle.volume.specs.Step.{Event, begins, resumes, is_due, Next, go, step}
use Rattle.volume.specs.Run.{ended, further, next, runs}
use Rattle.writing.specs.Lay.{Laid, laid, short, put}
use Rattle.sections.specs.Section.{headers, file_end, volume_end}
use Rattle.writing.proofs.Labels.{GoodFirst, GoodSecond}
use Rattle.label.proofs.Read.{length_first, length_second, length_volume}
use Rattle.writing.proofs.Acts.{at, OneSet, act_mark, act_reel_end, act_volume, act_header, act_header_later, act_second, act_second_later, act_eof1, act_eov1, act_eof2, act_eov2}

-- ---- read to the end

-- reading from s, with r reels ended, over these items ends and hands out these events; every item can stand in an image, and the
-- framing is good
pub record ReadTo (s : State) (r : ℕ) (xs : List Item) (es : List Event) : Type 0 where
  pub ends : runs s xs ≡ ended es
  pub whole : all_items xs ≡ true
  pub framed : (n : ℕ) (closed : Bool) → framed_from n r closed xs ≡ verdict 0 0 0

pub run_on : (s t : State) (x : Item) (xs : List Item) (fs es : List Event) → step s x ≡ go t fs → runs t xs ≡ ended es
    → runs s (x ∷ xs) ≡ ended (fs ++ es)
unfolding runs next further
run_on s t x xs fs es e h = ap (λ (n : Next). next n (λ u. runs u xs)) e ∙ ap (further fs) h

pub not_full : (r : ℕ) → r < 16 → eqb r 16 ≡ false
not_full r h = let other : r ≡ 16 → ⊥ = λ q. omega arith in ne_eqb r 16 other

pub read_block_lem : (s t : State) (r : ℕ) (c : List ℕ) (xs : List Item) (fs es : List Event) → step s (block c) ≡ go t fs
    → is_item (block c) ≡ true → r < 16
    → ReadTo t r xs es → ReadTo s r (block c ∷ xs) (fs ++ es)
unfolding all_items framed_from
read_block_lem s t r c xs fs es e i h d =
    record {
      ends = run_on s t (block c) xs fs es e d.ends;
      whole = if_true _ _ _ i ∙ d.whole;
      framed = λ n closed. if_false _ _ _ (not_full r h) ∙ d.framed (n + 1) false;
    }

pub read_mark : (s t : State) (r : ℕ) (xs : List Item) (es : List Event) → step s mark ≡ go t [] → r < 16 → ReadTo t r xs es
    → ReadTo s r (mark ∷ xs) es
unfolding all_items is_item framed_from
read_mark s t r xs es e h d =
    record {
      ends = run_on s t mark xs [] es e d.ends;
      whole = if_true _ _ _ refl ∙ d.whole;
      framed = λ n closed. if_false _ _ _ (not_full r h) ∙ d.framed (n + 1) false;
    }

read_end : (s t : State) (r : ℕ) (xs : List Item) (es : List Event) → step s reel_end ≡ go t [] → r < 16 → ReadTo t (r + 1) xs es
    → ReadTo s r (reel_end ∷ xs) es
unfolding all_items is_item framed_from
read_end s t r xs es e h d =
    record {
      ends = run_on s t reel_end xs [] es e d.ends;
      whole = if_true _ _ _ refl ∙ d.whole;
      framed = λ n closed. if_false _ _ _ (not_full r h) ∙ d.framed (n + 1) true;
    }

label_item : (l : List ℕ) → length l ≡ 80 → is_item (block l) ≡ true
unfolding is_item
label_item l h = and_true _ _ (le-leb 1 (length l) (omega arith)) (le-leb (length l) 99999 (omega arith))

-- a label hands out nothing, or what it says
pub read_label : (s t : State) (r : ℕ) (l : List ℕ) (xs : List Item) (fs es : List Event) → step s (block l) ≡ go t fs
    → length l ≡ 80 → r < 16
    → ReadTo t r xs es → ReadTo s r (block l ∷ xs) (fs ++ es)
read_label s t r l xs fs es e h m d = read_block_lem s t r l xs fs es e (label_item l h) m d

-- ---- what is laid

-- whatever is laid from here is read to its end, and P holds of what it hands out
abbrev pub ReadToEnd : State → ℕ → Laid → (List Event → Type 0) → Type 0
ReadToEnd s r l P = (xs : List Item) → l ≡ laid xs → (es : List Event) × ReadTo s r xs es × P es

abbrev pub IsLaid : Laid → Type 0
IsLaid (laid xs) = Unit {0}
IsLaid short = ⊥

abbrev pub items_of : Laid → List Item
items_of (laid xs) = xs
items_of short = []

-- a piece before the rest, which hands out `more` of what the rest hands out
pub ends_put : (s t : State) (r q : ℕ) (ys : List Item) (l : Laid) (P Q : List Event → Type 0) (more : List Event → List Event)
    → ((zs : List Item) (es : List Event) → ReadTo t q zs es → ReadTo s r (ys ++ zs) (more es))
    → ((es : List Event) → Q es → P (more es))
    → ReadToEnd t q l Q → ReadToEnd s r (put ys l) P
unfolding put
ends_put s t r q ys (laid zs) P Q more k m h xs e =
    let (es, d, z) = h zs refl in
    (more es, subst (λ (l : List Item). ReadTo s r l (more es)) (ap items_of e) (k zs es d), m es z)
ends_put s t r q ys short P Q more k m h xs e = absurd (subst IsLaid (sym e) tt)

-- the headers of a file's first section
pub read_headers : (p : Phase) (names : List (List ℕ)) (files : ℕ) (f s : List ℕ) (c r : ℕ) (set e : List ℕ) (xs : List Item)
    (es : List Event)
    → is_due (due_after p data_block) ≡ false → due_after p (hdr 1) ≡ Some FirstHeader → GoodFirst set e → GoodSecond e
    → OneSet files set f → files < 64 → r < 16
    → ReadTo (at Data names (suc files) false (made_first hdr1_name set e 1 (suc files) 0) (made_second hdr2_name e) 0 0) r xs es
    → ReadTo (at p names files false f s c 0) r (headers set e 1 (suc files) ++ xs)
    (begins (made_first hdr1_name set e 1 (suc files) 0) (made_second hdr2_name e) ∷ es)
unfolding headers due_after dues choose up_to_nine is_kind if_b
read_headers p names files f s c r set e xs es d h g k one few m z =
    let l : List ℕ = made_first hdr1_name set e 1 (suc files) 0 in
    let n : List ℕ = made_second hdr2_name e in
    read_label _ _ r l _ [] _ (act_header p names files f s c 0 set e d h g one few) (length_first hdr1_name set e 1 (suc files) 0) m
    (read_label _ _ r n _ (begins l n ∷ []) es (act_second names files l s 0 0 e k) (length_second hdr2_name e) m
    (read_mark _ _ r xs es (act_mark (Header 2) Data names (suc files) false l n 0 0 refl) m z))

-- the end of a file
pub read_file_end : (names : List (List ℕ)) (files : ℕ) (on : Bool) (set e : List ℕ) (a q c r : ℕ) (xs : List Item) (es : List Event)
    → GoodFirst set e → GoodSecond e → c < 1000000 → r < 16
    → ReadTo (at FileEnd names files false (made_first hdr1_name set e a q 0) (made_second hdr2_name e) c 0) r xs es
    → ReadTo (at Data names files on (made_first hdr1_name set e a q 0) (made_second hdr2_name e) c 0) r (file_end set e a q c ++ xs) es
unfolding file_end due_after dues choose up_to_nine is_kind if_b
read_file_end names files on set e a q c r xs es g k h m z =
    let f : List ℕ = made_first hdr1_name set e a q 0 in
    let s : List ℕ = made_second hdr2_name e in
    read_mark _ _ r _ es (act_mark Data Trailer names files on f s c 0 refl) m
    (read_label _ _ r _ _ [] es (act_eof1 names files on s set e a q c g h) (length_first eof1_name set e a q c) m
    (read_label _ _ r _ _ [] es (act_eof2 names files false f e c 0 k) (length_second eof2_name e) m
    (read_mark _ _ r xs es (act_mark (Eof 2) FileEnd names files false f s c 0 refl) m z)))

-- the change of reels within a file
pub read_change : (names : List (List ℕ)) (files : ℕ) (on : Bool) (set e : List ℕ) (a q c o r : ℕ) (n : List ℕ) (xs : List Item)
    (es : List Event)
    → GoodFirst set e → GoodSecond e → c < 1000000 → a < 9999 → r + 1 < 16 → length names < 16
    → length n ≡ 6 → (label_fault (vol 1) (made_volume n)).number ≡ 0 → is_among n names ≡ false
    → ReadTo (at Data (names ++ (n ∷ [])) files true (made_first hdr1_name set e (suc a) q 0) (made_second hdr2_name e) 0 o) (r + 1) xs es
    → ReadTo (at Data names files on (made_first hdr1_name set e a q 0) (made_second hdr2_name e) c o) r
    (volume_end set e a q c ++ (block (made_volume n) ∷ headers set e (suc a) q) ++ xs)
    (resumes (made_first hdr1_name set e (suc a) q 0) (made_second hdr2_name e) ∷ es)
unfolding volume_end headers due_after dues choose up_to_nine is_kind if_b
read_change names files on set e a q c o r n xs es g k h b m w i v u z =
    let f : List ℕ = made_first hdr1_name set e a q 0 in
    let t : List ℕ = made_first hdr1_name set e (suc a) q 0 in
    let s : List ℕ = made_second hdr2_name e in
    let here : r < 16 = omega arith in
    read_mark _ _ r _ _ (act_mark Data Trailer names files on f s c o refl) here
    (read_label _ _ r _ _ [] _ (act_eov1 names files on s set e a q c o g h) (length_first eov1_name set e a q c) here
    (read_label _ _ r _ _ [] _ (act_eov2 names files true f e c o k) (length_second eov2_name e) here
    (read_mark _ _ r _ _ (act_mark (Eov 2) VolumeEnd names files true f s c o refl) here
    (read_mark _ _ r _ _ (act_mark VolumeEnd ReelClosed names files true f s c o refl) here
    (read_end _ _ r _ _ (act_reel_end ReelClosed ReelDue names files true f s c o refl) here
    (read_label _ _ (r + 1) _ _ [] _ (act_volume names files true f s c o n i v w u) (length_volume n) m
    (read_label _ _ (r + 1) _ _ [] _ (act_header_later (names ++ (n ∷ [])) files s c o set e a q g b)
    (length_first hdr1_name set e (suc a) q 0) m
    (read_label _ _ (r + 1) _ _ (resumes t s ∷ []) es (act_second_later (names ++ (n ∷ [])) files t 0 o e k)
    (length_second hdr2_name e) m
    (read_mark _ _ (r + 1) xs es (act_mark (Header 2) Data (names ++ (n ∷ [])) files true t s 0 o refl) m z)))))))))
