-- The parts of an image from a place on, in order: a file begins, a section of it begins, a data block. Document 01, "What a reel
-- holds, in order": what stands between them is passed as the order of a reel has it; what is not due there ends the search.
-- Whatever the bytes are, accepted or not, a file begins at an HDR2 where none goes on.
-- Read first: `parts_from`, all parts from a place on; files, sections, blocks and so records are found by the first of them that
-- is wanted.
use Rattle.std.specs.Prelude.{Bool, true, false, not, List, [], ◌∷◌, map, ℕ, ◌+◌, length, drop, Option, Some, None}
use Rattle.content.specs.declared.part.Part.{Part}
use Rattle.base.specs.If.{if_b}
use Rattle.image.specs.Item.{Item, decode}
use Rattle.order.specs.Kind.{hdr, eov, eof, data_block, is_kind}
use Rattle.order.specs.Due.{due_after}
use Rattle.order.specs.declared.Kind.{Kind}
use Rattle.order.specs.declared.Phase.{Phase}
use Rattle.order.specs.declared.Phase.TheVariants.{Header}
use Rattle.volume.specs.Step.{kind_in, bytes_in}
use Rattle.content.specs.declared.part.Position.{Position}
use Rattle.content.specs.declared.part.Part.TheVariants.{File, Section, Block}
use Rattle.content.specs.declared.part.PartAt.{PartAt}

-- ---- an item at a place

-- the place behind an item that stands at a place
unfoldable pub place_behind : ℕ → Item → ℕ
place_behind at x = at + 3 + length (bytes_in x)

-- an item of kind k begins a file: HDR2, but not of a file that goes on
unfoldable pub begins_file : Bool → Kind → Bool
begins_file continues k = if_b (is_kind k (hdr 2)) (not continues) false

-- where an item leads: one that begins a file right behind its HDR2, any other where it is due
unfoldable pub led_to : Bool → Phase → Kind → Option Phase
led_to continues p k = if_b (begins_file continues k) (Some (Header 2)) (due_after p k)

-- whether the next HDR1 goes on with a file
unfoldable pub continues_behind : Bool → Kind → Bool
continues_behind continues k = if_b (is_kind k (eov 1)) true (if_b (is_kind k (eof 1)) false continues)

-- the place of the last HDR1, behind an item whose bytes begin at `start`
unfoldable pub first_behind : ℕ → ℕ → Kind → ℕ
first_behind hdr1 start k = if_b (is_kind k (hdr 1)) start hdr1

-- the place behind an item of kind k and n bytes that leads to phase q
abbrev pub after : Position → Kind → ℕ → Phase → Position
after c k n q =
    record {
      at = c.at + 3 + n;
      hdr1 = first_behind c.hdr1 (c.at + 3) k;
      phase = q;
      continues = continues_behind c.continues k;
    }

-- which part an item of kind k is, with its n bytes from `start` on, or none
unfoldable pub part_in : Bool → ℕ → ℕ → ℕ → Kind → Option Part
part_in continues hdr1 start n k =
    if_b (is_kind k data_block) (Some (Block start n)) (if_b (is_kind k (hdr 2)) (if_b continues (Some (Section hdr1 start)) (Some (File hdr1 start))) None)

-- ---- all parts

unfoldable pub onto : Option Part → Position → List PartAt → List PartAt
onto (Some p) c ps = record { part = Some p; behind = c } ∷ ps
onto None c ps = ps

unfoldable pub parts_by : Option Phase → (Phase → List PartAt) → List PartAt
parts_by (Some q) rest = rest q
parts_by None rest = []

-- the parts from a place on, each with the place behind it
unfoldable pub parts_from : Position → List Item → List PartAt
parts_from c [] = []
parts_from c (x ∷ xs) =
    parts_by (led_to c.continues c.phase (kind_in c.phase x))
    (λ q.
    onto (part_in c.continues c.hdr1 (c.at + 3) (length (bytes_in x)) (kind_in c.phase x))
    (after c (kind_in c.phase x) (length (bytes_in x)) q)
    (parts_from (after c (kind_in c.phase x) (length (bytes_in x)) q) xs))

-- the same, in an image
abbrev pub parts_at : List ℕ → Position → List PartAt
parts_at s c = parts_from c (decode (drop c.at s))

-- the parts without their places
abbrev pub parts : Position → List Item → List (Option Part)
parts c xs = map (λ (p : PartAt). p.part) (parts_from c xs)

-- ---- the first that is wanted

-- a file always is; sections and blocks where they are asked for
unfoldable pub is_wanted : Bool → Bool → Option Part → Bool
is_wanted sections blocks (Some (File a b)) = true
is_wanted sections blocks (Some (Section a b)) = sections
is_wanted sections blocks (Some (Block a n)) = blocks
is_wanted sections blocks None = false

-- the first such part, or none
unfoldable pub first_in : Bool → Bool → List (Option Part) → Option Part
first_in sections blocks [] = None
first_in sections blocks (p ∷ ps) = if_b (is_wanted sections blocks p) p (first_in sections blocks ps)

-- the same with the place behind it; without one the place is that of the search
unfoldable pub first_from : Position → Bool → Bool → List PartAt → PartAt
first_from c sections blocks [] = record { part = None; behind = c }
first_from c sections blocks (p ∷ ps) = if_b (is_wanted sections blocks p.part) p (first_from c sections blocks ps)

-- the next part from a place on
abbrev pub next_part : List ℕ → Position → PartAt
next_part s c = first_from c true true (parts_at s c)
