-- Document 01's whole set, byte for byte, and its listing; and the same set with another block count in EOF1. Both texts are
-- computed.
use mathlib.Core.Path.{◌≡◌, refl}
use mathlib.Core.List.{List, [], ◌∷◌, ◌++◌}
use Prim.Native.Nat.{ℕ}
use Prim.Native.String.{String}
use Rattle.base.specs.If.{if_b}
use Rattle.base.specs.Part.{part, same, all_are}
use Rattle.base.specs.Digits.{is_digit, all_digits, value, digits}
use Rattle.base.specs.Answer.{fault, verdict, or_else}
use Rattle.base.specs.Sum.{sum}
use Rattle.charset.specs.Class.{is_a, class_of, all_a}
use Rattle.charset.specs.Date.{is_century, is_year_day, is_date}
use Rattle.charset.specs.Number.{number_in}
use Rattle.image.specs.Framing.{head, framed_from, items, framing}
use Rattle.image.specs.Item.{block, mark, reel_end, word, led_by, shape, item_of, behind, decode_f, decode, three, bytes_of, encode_by, encode}
use Rattle.order.specs.Due.{up_to_nine, dues, choose, due_after}
use Rattle.order.specs.Kind.{is_kind}
use Rattle.label.specs.Field.{volume_of, set_of, section_of, sequence_of, count_of, format_of, block_length_of, record_length_of, offset_of, least_record, suits, suits_both, is_length, is_record_length, is_positive, is_format, has_record_length, good}
use Rattle.label.specs.Judged.{first_bad, good_at, agree_at, access_of, access_at, field_fault, label_fault}
use Rattle.label.specs.Name.{required, family, numbered, optional, or_else as or_named, named as named_by, kind_of}
use Rattle.label.specs.Table.{fields_of}
use Rattle.output.specs.Text.{bytes}
use Rattle.block.specs.Cut.{onto, cut_one, cut_f, cut, some_units, units}
use Rattle.block.specs.Turn.{outcome, is_turn, open_after, turns_from, turned, block_outcome}
use Rattle.block.specs.Unit.{fixed, measured, variable, segment, unit_of, length_of}
use Rattle.volume.specs.Fault.{says, value_of, lower, crossed, is_among, volume_fault, new_file_place, later_place, file_fault, hdr1_fault, hdr2_fault, trailer1_fault, open_fault, file_end_fault, trailer2_fault, outcome_in, block_fault, context_fault, item_fault}
use Rattle.volume.specs.Meaning.{on_first, joined, fields_from, collect, set_from, meaning_of, handed_out, content}
use Rattle.volume.specs.Run.{further, next, runs, answer_of, image_verdict}
use Rattle.volume.specs.State.{start}
use Rattle.volume.specs.Step.{is_due, kind_in, bytes_in, volumes_after, files_after, continues_after, hdr1_after, hdr2_after, count_after, pending_after, state_after, segments_of, segments_in, events_of, judged, ordered, step}
use Rattle.listing.specs.Decimal.{decimal_f, decimal}
use Rattle.listing.specs.Text.{newline, heading, named, counted, described, line, lines, listing_of, placed, refusal_line, text_of}

-- reel GATE01, set SET001, file LEDGER, with this block count in EOF1
unfoldable pub ledger : String → List ℕ
ledger count =
    head
    ++ encode
    (block (bytes "VOL1GATE01                                                                     4")
    ∷ block (bytes "HDR1LEDGER           SET00100010001000100 85335 00000 000000                    ")
    ∷ block (bytes "HDR2F0002000010                                   00                            ")
    ∷ mark
    ∷ block (bytes "0123456789")
    ∷ mark
    ∷ block (bytes "EOF1LEDGER           SET00100010001000100 85335 00000 " ++ bytes count ++ bytes "                    ")
    ∷ block (bytes "EOF2F0002000010                                   00                            ")
    ∷ mark
    ∷ mark
    ∷ reel_end
    ∷ [])

pub ledger_texts : (text_of (ledger "000001") ≡ bytes "SEQ FILE              FMT RECORDS BYTES" ++ newline ++
    bytes "0001 LEDGER            F 1 10" ++ newline)
    × (text_of (ledger "000002") ≡ bytes "refused 6 at item 6 byte 55" ++ newline)
unfolding ledger if_b part same all_are is_digit all_digits value digits fault verdict or_else is_a class_of all_a is_century is_year_day is_date number_in framed_from items framing word led_by shape item_of behind decode_f decode three bytes_of encode_by encode up_to_nine dues choose due_after is_kind volume_of set_of section_of sequence_of count_of format_of block_length_of record_length_of offset_of least_record suits suits_both is_length is_record_length is_positive is_format has_record_length good first_bad good_at agree_at access_of access_at field_fault label_fault required family numbered optional or_named named_by kind_of fields_of bytes onto cut_one cut_f cut some_units units outcome is_turn open_after turns_from turned block_outcome fixed measured variable segment unit_of length_of says value_of lower crossed is_among volume_fault new_file_place later_place file_fault hdr1_fault hdr2_fault trailer1_fault open_fault file_end_fault trailer2_fault outcome_in block_fault context_fault item_fault on_first joined fields_from collect set_from meaning_of handed_out content further next runs answer_of image_verdict start is_due kind_in bytes_in volumes_after files_after continues_after hdr1_after hdr2_after count_after pending_after state_after segments_of segments_in events_of judged ordered step sum decimal_f decimal heading named counted described line lines listing_of placed refusal_line text_of
ledger_texts = (refl, refl)
