-- A set of three reels that was written over New Year, and sets of its kind that are refused (document 02, P2). Every claim is
-- computed.
use mathlib.Core.Path.{◌≡◌, refl}
use mathlib.Core.List.{List, [], ◌∷◌, ◌++◌}
use Prim.Native.Nat.{ℕ}
use Prim.Native.String.{String}
use Rattle.base.specs.Answer.{fault, verdict, or_else}
use Rattle.base.specs.Digits.{is_digit, all_digits, value, digits}
use Rattle.base.specs.If.{if_b}
use Rattle.base.specs.Part.{part, put_at, same, all_are}
use Rattle.charset.specs.Class.{is_a, class_of, all_a}
use Rattle.charset.specs.Date.{is_century, is_year_day, is_date}
use Rattle.charset.specs.Number.{number_in}
use Rattle.image.specs.Framing.{head, framed_from, items, framing}
use Rattle.image.specs.Item.{Item, block, mark, reel_end, word, led_by, shape, item_of, behind, decode_f, decode, three, bytes_of, encode_by, encode}
use Rattle.order.specs.Due.{up_to_nine, dues, choose, due_after}
use Rattle.order.specs.Kind.{is_kind}
use Rattle.label.specs.Field.{volume_of, set_of, section_of, sequence_of, count_of, format_of, block_length_of, record_length_of, offset_of, least_record, suits, suits_both, is_length, is_record_length, is_positive, is_format, has_record_length, good}
use Rattle.label.specs.Judged.{first_bad, good_at, agree_at, access_of, access_at, field_fault, label_fault}
use Rattle.label.specs.Made.{fitted, laid as filled, made_volume, made_first, made_second}
use Rattle.label.specs.Name.{required, family, numbered, optional, or_else as or_named, named as named_by, kind_of}
use Rattle.label.specs.Table.{fields_of}
use Rattle.output.specs.Text.{bytes}
use Rattle.block.specs.Cut.{onto, cut_one, cut_f, cut, some_units, units}
use Rattle.block.specs.Turn.{outcome, is_turn, open_after, turns_from, turned, block_outcome}
use Rattle.block.specs.Unit.{fixed, measured, variable, segment, unit_of, length_of, word_of}
use Rattle.volume.specs.Dates.{is_dated, undated, undated_in, undated_behind, undated_from}
use Rattle.volume.specs.Fault.{says, value_of, lower, crossed, is_among, volume_fault, new_file_place, later_place, file_fault, hdr1_fault, hdr2_fault, trailer1_fault, open_fault, file_end_fault, trailer2_fault, outcome_in, block_fault, context_fault, item_fault}
use Rattle.volume.specs.Meaning.{on_first, joined, fields_from, collect, set_from, meaning_of, handed_out, content}
use Rattle.volume.specs.Run.{further, next, runs, answer_of, image_verdict}
use Rattle.volume.specs.State.{start}
use Rattle.volume.specs.Step.{is_due, kind_in, bytes_in, volumes_after, files_after, continues_after, hdr1_after, hdr2_after, count_after, pending_after, state_after, segments_of, segments_in, events_of, judged, ordered, step}
use Rattle.sheet.specs.Flat.{in_parts_f, in_parts}
use Rattle.reading.specs.Legal.{format_from, block_length_from}
use Rattle.writing.specs.Lay.{reels_of, laid, put, rest, lay_files, lay_on, lay}
use Rattle.sections.specs.Section.{headers, file_end, volume_end}
use Rattle.writing.specs.Pack.{control_word, start_of, unit_in, fill, after, weights, weight, blocks_f, blocks_left, blocks_of}
use Rattle.block.specs.Room.{enters, taken, indicator_of}
use Rattle.writing.specs.Rewrite.{sheet_from}

-- ---- the sets

-- HDR1 of file LEDGER, or EOV1 or EOF1 from BP 4 on: section n, its two dates, its block count
unfoldable pub first : String → String → String → String → List ℕ
first name n dates count =
    bytes name ++ bytes "LEDGER           SET001000" ++ bytes n ++ bytes "0001000100" ++ bytes dates ++ bytes " " ++
    bytes count ++ bytes "                    "

-- reel GATE0n with section n and its one block: the dates of the header, EOV or EOF, the dates of the trailer
unfoldable pub reel : String → String → String → String → List Item
reel n header end trailer =
    block (bytes "VOL1GATE0" ++ bytes n ++ bytes "                                                                     4")
    ∷ block (first "HDR1" n header "000000")
    ∷ block (bytes "HDR2F0001000010                                   00                            ")
    ∷ mark
    ∷ block (bytes "0123456789")
    ∷ mark
    ∷ block (bytes end ++ first "1" n trailer "000001")
    ∷ block (bytes end ++ bytes "2F0001000010                                   00                            ")
    ∷ mark
    ∷ mark
    ∷ reel_end
    ∷ []

-- section 0001 is of day 365 of the year 85; the dates of the second header and of its trailer, and those of the third section
unfoldable pub ledger : String → String → String → List Item
ledger header trailer third =
    reel "1" " 85365 86365" "EOV" " 85365 86365" ++ reel "2" header "EOV" trailer ++ reel "3" third "EOF" third

-- the later sections are of the year 86, each of a day of its own
unfoldable pub new_year : List Item
new_year = ledger " 86001 87001" " 86001 87001" " 86002 00000"

-- every section has the dates of section 0001
unfoldable pub old_year : List Item
old_year = ledger " 85365 86365" " 85365 86365" " 85365 86365"

unfoldable pub image_of : List Item → List ℕ
image_of xs = head ++ encode xs

-- ---- what is computed

pub new_year_lem :
    -- other dates in each later section are accepted; written again, every section has those of section 0001
    (image_verdict (image_of new_year) ≡ verdict 0 0 0)
    × (lay (sheet_from (image_of new_year) 1 (bytes "GATE01GATE02GATE03")) ≡ laid old_year)
    -- the two sets differ in later dates alone, and the other one is accepted too, and written as it is
    × (undated_from start (items (image_of new_year)) ≡ undated_from start (items (image_of old_year)))
    × (image_verdict (image_of old_year) ≡ verdict 0 0 0)
    × (lay (sheet_from (image_of old_year) 1 (bytes "GATE01GATE02GATE03")) ≡ laid old_year)
    -- day 000 in a later section
    × (image_verdict (image_of (ledger " 86000 86365" " 86000 86365" " 85365 86365")) ≡ verdict 4 12 42)
    -- a trailer with section 0001's date below a header with another
    × (image_verdict (image_of (ledger " 86001 86365" " 85365 86365" " 85365 86365")) ≡ verdict 6 17 42)
    × (image_verdict (image_of (ledger " 85365 87001" " 85365 86365" " 85365 86365")) ≡ verdict 6 17 48)
unfolding first reel ledger new_year old_year image_of if_b part same all_are is_digit all_digits value digits fault verdict or_else is_a class_of all_a is_century is_year_day is_date number_in framed_from items framing word led_by shape item_of behind decode_f decode three bytes_of encode_by encode up_to_nine dues choose due_after is_kind volume_of set_of section_of sequence_of count_of format_of block_length_of record_length_of offset_of least_record suits suits_both is_length is_record_length is_positive is_format has_record_length good first_bad good_at agree_at access_of access_at field_fault label_fault required family numbered optional or_named named_by kind_of fields_of bytes onto cut_one cut_f cut some_units units outcome is_turn open_after turns_from turned block_outcome fixed measured variable segment unit_of length_of says value_of lower crossed is_among volume_fault new_file_place later_place file_fault hdr1_fault hdr2_fault trailer1_fault open_fault file_end_fault trailer2_fault outcome_in block_fault context_fault item_fault on_first joined fields_from collect set_from meaning_of handed_out content further next runs answer_of image_verdict start is_due kind_in bytes_in volumes_after files_after continues_after hdr1_after hdr2_after count_after pending_after state_after segments_of segments_in events_of judged ordered step put_at is_dated undated undated_in undated_behind undated_from fitted filled made_volume made_first made_second format_from block_length_from in_parts_f in_parts enters taken indicator_of control_word start_of unit_in fill after weights weight blocks_f blocks_left blocks_of put headers file_end volume_end rest lay_files lay_on reels_of lay sheet_from word_of
new_year_lem = (refl, refl, refl, refl, refl, refl, refl, refl)
