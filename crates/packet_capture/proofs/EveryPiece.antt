-- Bytes begin with a piece, or there is a reason why they don't.
use Rattle.std.proofs.Common.{◌≡◌, ℕ, zero, suc, ◌+◌, ◌-◌, ◌*◌, ◌≤◌, List, [], ◌∷◌, length, take, refl, sym, arith, inl, inr, length-append, length-drop}
use Rattle.std.specs.Prelude.{◌⊎◌, ◌/◌, ◌%◌, Some, None, slice_get}
use Rattle.std.proofs.lemmas.Bool.{cases_lt, cases_eq}
use Rattle.packet_capture.specs.declared.fields.ByteOrder.{ByteOrder}
use Rattle.packet_capture.specs.declared.fields.ByteOrder.TheVariants.{Big}
use Rattle.packet_capture.specs.declared.content.BlockKind.{BlockKind}
use Rattle.packet_capture.specs.declared.content.BlockKind.TheVariants.{SectionHeader, Description, Enhanced, Old, Simple, Unread}
use Rattle.packet_capture.specs.declared.drop_report.DropReport.TheVariants.{Silent}
use Rattle.packet_capture.specs.declared.fault.CaptureFault.{CaptureFault}
use Rattle.packet_capture.specs.declared.fault.CaptureFault.TheVariants.{NotCapture, UnknownVersion, TooLong, BadByteOrder, BadBlockLength, LengthsDiffer, ShortBlock, UnknownInterface, FramePastBlock, OptionPastBlock, TooManyInterfaces}
use Rattle.packet_capture.specs.declared.interface.Interface.{Interface}
use Rattle.packet_capture.specs.declared.reader.Format.{Format}
use Rattle.packet_capture.specs.declared.reader.Format.TheVariants.{Start, InSavefile, InSection}
use Rattle.packet_capture.specs.declared.savefile.Magic.{Magic}
use Rattle.packet_capture.specs.declared.savefile.Savefile.{Savefile}
use Rattle.packet_capture.specs.declared.stop.NoPiece.{NoPiece}
use Rattle.packet_capture.specs.declared.stop.NoPiece.TheVariants.{Bad, Wants}
use Rattle.packet_capture.specs.Fields.{u16_in, u32_in, bytes_at}
use Rattle.packet_capture.specs.Frames.{FrameContent}
use Rattle.packet_capture.specs.Savefiles.{magic_at, savefile_at, BeginsSavefile, captured_at, record_time, IsPacketRecord}
use Rattle.packet_capture.specs.Blocks.{order_at, IsBlockLen, IsBlock}
use Rattle.packet_capture.specs.Interfaces.{OptionField, IsAtFront, after_option, AreOptions, CutAfter, with_options, bare_interface, options_in}
use Rattle.packet_capture.specs.Contents.{block_kind, fixed_len, IsPacketKind, IsSectionVersion, interface_in, captured_in, frame_in, BlockEvent, section_begins, interface_added, frame_came, passed_over, BlockSays, HasBlockFault}
use Rattle.packet_capture.specs.DropReports.{report_of}
use Rattle.packet_capture.specs.Stops.{StopsInHeader, StopsInRecord, StopsInBlock}
use Rattle.packet_capture.specs.Captures.{Context, PieceContent, IsBlockPiece, IsPieceIn, IsPiece, frame_in_event, interfaces_after, StopsInSection, StopsIn, StopsReading}
use Rattle.packet_capture.proofs.Deciding.{option_cases}

-- of bytes: a piece and what it leaves, or a stop
PieceOrStop : Format → Context → List ℕ → Type 0
PieceOrStop format before bytes =
    ((piece : PieceContent) × (after : Context) × IsPieceIn format before bytes piece after)
    ⊎ ((stop : NoPiece) × StopsIn format before bytes stop)

-- a savefile
header_or_stop : (bytes : List ℕ) (magic : Magic) → magic_at bytes ≡ Some magic
    → ((s : Savefile) × BeginsSavefile bytes s) ⊎ ((stop : NoPiece) × StopsInHeader bytes stop)
header_or_stop bytes magic is = elim (cases_lt (length bytes) 24) [
  | inl short ↦ inr (Wants 24, inl (short, refl))
  | inr there ↦ elim (cases_eq (u16_in magic.order bytes 4) 2) [
    | inr other ↦ inr (
      Bad UnknownVersion,
      inr (
        record {
          there = there;
          magic = magic;
          magic_is =
              is;
          other = λ v. other v.0;
        },
        refl,
      ),
    )
    | inl major ↦ elim (cases_eq (u16_in magic.order bytes 6) 4) [
      | inr other ↦ inr (
        Bad UnknownVersion,
        inr (
          record {
            there = there;
            magic = magic;
            magic_is =
                is;
            other = λ v. other v.1;
          },
          refl,
        ),
      )
      | inl minor ↦ inl (
        savefile_at magic bytes,
        record {
          there = there;
          magic = magic;
          magic_is =
              is;
          version = (major, minor);
          is = refl;
        },
      )
    ]
  ]
]

record_frame : Savefile → List ℕ → FrameContent
record_frame s bytes = record {
  link = s.link;
  time = Some (record_time s bytes);
  wire_len = u32_in s.magic.order bytes 12;
  bytes = bytes_at bytes 16 (captured_at s bytes);
}

record_or_stop : (s : Savefile) (bytes : List ℕ) → ((f : FrameContent) × IsPacketRecord s bytes f)
    ⊎ ((stop : NoPiece) × StopsInRecord s bytes stop)
unfolding record_frame
record_or_stop s bytes = elim (cases_lt (length bytes) 16) [
  | inl short ↦ inr (Wants 16, inl (short, refl))
  | inr there ↦ elim (cases_lt 1048576 (captured_at s bytes)) [
    | inl long ↦ inr (Bad TooLong, inr (inl (there, long, refl)))
    | inr short ↦ elim (cases_lt (length bytes) (16 + captured_at s bytes)) [
      | inl cut ↦ inr (Wants (16 + captured_at s bytes), inr (inr (there, short, cut, refl)))
      | inr whole ↦ inl (
        record_frame s bytes,
        record {
          there = there;
          short = short;
          whole = whole;
          link = refl;
          time = refl;
          wire_len = refl;
          bytes_are = refl;
        },
      )
    ]
  ]
]

-- blocks
len_or_not : (len : ℕ) → IsBlockLen len ⊎ (IsBlockLen len → ⊥)
len_or_not len = elim (cases_lt len 12) [
  | inl short ↦ inr (λ h. let a = h.0 in omega arith)
  | inr least ↦ elim (cases_eq (len % 4) 0) [
    | inl even ↦ inl (least, even)
    | inr
        odd ↦ inr (λ h. odd h.1)
  ]
]

block_or_stop : (section : ByteOrder) (bytes : List ℕ)
    → ((order : ByteOrder) × (block : List ℕ) × IsBlock section bytes order block)
    ⊎ ((stop : NoPiece) × StopsInBlock section bytes stop)
block_or_stop section bytes = elim (cases_lt (length bytes) 12) [
  | inl short ↦ inr (Wants 12, inl (short, refl))
  | inr there ↦ elim (option_cases (order_at section bytes)) [
    | inl none ↦ inr (Bad BadByteOrder, inr (inl (there, none, refl)))
    | inr (order, is) ↦ elim (len_or_not (u32_in order bytes 4)) [
      | inr bad ↦ inr (Bad BadBlockLength, inr (inr (there, (order, is, inl (bad, refl)))))
      | inl counted ↦ elim (cases_lt 1048576 (u32_in order bytes 4)) [
        | inl long ↦ inr (
          Bad TooLong,
          inr (inr (there, (order, is, inr (inl (counted, long, refl))))),
        )
        | inr short ↦ elim (cases_lt (length bytes) (u32_in order bytes 4)) [
          | inl cut ↦ inr (
            Wants (u32_in order bytes 4),
            inr (inr (there, (order, is, inr (inr (inl (counted, short, cut, refl)))))),
          )
          | inr whole ↦ elim (cases_eq (u32_in order bytes (u32_in order bytes 4 - 4))
              (u32_in order bytes 4)) [
                | inr other ↦ inr (
                  Bad LengthsDiffer,
                  inr (inr (
                    there,
                    (order, is, inr (inr (inr (counted, short, whole, other, refl)))),
                  )),
                )
                | inl again ↦ inl (
                  order,
                  take (u32_in order bytes 4) bytes,
                  record {
                    there = there;
                    order_is = is;
                    counted = counted;
                    short = short;
                    whole = whole;
                    again =
                        again;
                    block_is = refl;
                  },
                )
              ]
        ]
      ]
    ]
  ]
]

-- options, of which each takes four bytes at least
OptionsOrCut : ByteOrder → List ℕ → Type 0
OptionsOrCut order bytes = ((os : List OptionField) × AreOptions order bytes os)
    ⊎ ((os : List OptionField) × CutAfter order bytes os)

one_option : (order : ByteOrder) (bytes : List ℕ) (o : OptionField) → IsAtFront order bytes o
    → OptionsOrCut order (after_option order bytes) → OptionsOrCut order bytes
unfolding OptionsOrCut
one_option order bytes o front (inl h) = inl (o ∷ h.0, (front, h.1))
one_option order bytes o front (inr h) = inr (o ∷ h.0, (front, h.1))

options_or_cut : (order : ByteOrder) (n : ℕ) (bytes : List ℕ) → length bytes ≤ n
    → OptionsOrCut order bytes
unfolding OptionsOrCut
options_or_cut order zero bytes few = inl ([], λ four. absurd (omega arith))
options_or_cut order (suc n) bytes few = elim (cases_lt (length bytes) 4) [
  | inl short ↦ inl ([], λ four. absurd (omega arith))
  | inr there ↦ elim (cases_eq (u16_in order bytes 0) 0) [
    | inl end ↦ inl ([], λ four. end)
    | inr some ↦ elim (cases_lt (length bytes) (4 + u16_in order bytes 2)) [
      | inl cut ↦ inr ([], (there, omega arith, cut))
      | inr within ↦
          let o : OptionField = record {
            code = u16_in order bytes 0;
            value = bytes_at bytes 4
                (u16_in order bytes 2);
          } in
          let front : IsAtFront order bytes o = record {
            there = there;
            code = refl;
            goes_on =
                omega arith;
            within = within;
            value = refl;
          } in
          one_option order bytes o front (options_or_cut order n (after_option order bytes)
          (omega (arith, length-drop (4 + (u16_in order bytes 2 + 3) / 4 * 4) bytes)))
    ]
  ]
]

-- the meaning of a block, or why it has none
EventOrFault : List Interface → ByteOrder → List ℕ → Type 0
EventOrFault is order block = ((s : BlockEvent) × BlockSays is order block s)
    ⊎ ((f : CaptureFault) × HasBlockFault is order block f)

version_or_not : (order : ByteOrder) (block : List ℕ) → IsSectionVersion order block
    ⊎ (IsSectionVersion order block → ⊥)
version_or_not order block = elim (cases_eq (u16_in order block 12) 1) [
  | inr other ↦ inr (λ v. other v.0)
  | inl major ↦ elim (cases_eq (u16_in order block 14) 0) [
    | inl none ↦ inl (major, inl none)
    | inr some ↦ elim (cases_eq (u16_in order block 14) 2) [
      | inl two ↦ inl (major, inr two)
      | inr other ↦ inr (λ v. elim v.1 [ inl a ↦ some a | inr b ↦ other b ])
    ]
  ]
]

frame_or_fault : (is : List Interface) (order : ByteOrder) (block : List ℕ) (kind : BlockKind)
    → kind ≡ block_kind order block → IsPacketKind kind → fixed_len kind ≤ length block
    → EventOrFault is order block
unfolding EventOrFault
frame_or_fault is order block kind kind_is packet there =
    elim (option_cases (slice_get is (interface_in kind order block))) [
      | inl none ↦ inr (
        UnknownInterface,
        inr (inr (inr (inl (
          record {
            kind = kind;
            kind_is = kind_is;
            is_packet = packet;
            there =
                there;
            unknown = none;
          },
          refl,
        )))),
      )
      | inr (i, some) ↦ elim
          (cases_lt (length block) (fixed_len kind + captured_in kind order i block)) [
            | inl cut ↦ inr (
              FramePastBlock,
              inr (inr (inr (inr (
                record {
                  kind = kind;
                  kind_is = kind_is;
                  is_packet = packet;
                  there =
                      there;
                  interface = i;
                  interface_is = some;
                  cut = cut;
                },
                refl,
              )))),
            )
            | inr whole ↦ inl (
              frame_came (frame_in kind order i block),
              record {
                kind = kind;
                kind_is =
                    kind_is;
                is_packet = packet;
                there = there;
                interface = i;
                interface_is = some;
                whole = whole;
                is = refl;
              },
            )
          ]
    ]

described : (is : List Interface) (order : ByteOrder) (block : List ℕ)
    → block_kind order block ≡ Description → 20 ≤ length block
    → OptionsOrCut order (options_in block) → EventOrFault is order block
unfolding EventOrFault OptionsOrCut
described is order block kind there (inl h) =
    inl (
      interface_added (with_options order (bare_interface order block) h.0),
      (kind, (there, record { options = h.0; are = h.1; is = refl })),
    )
described is order block kind there (inr h) =
    inr (
      OptionPastBlock,
      inr (inr (inl (kind, (there, record { options = h.0; cut = h.1 }), refl))),
    )

event_or_fault_of : (is : List Interface) (order : ByteOrder) (block : List ℕ) (kind : BlockKind)
    → block_kind order block ≡ kind → fixed_len kind ≤ length block → EventOrFault is order block
unfolding EventOrFault
event_or_fault_of is order block SectionHeader kind there = elim (version_or_not order block) [
  | inl version ↦ inl (section_begins, (kind, there, version))
  | inr other ↦ inr (UnknownVersion, inr (inl (kind, there, other, refl)))
]
event_or_fault_of is order block Description kind there = described is order block kind there
    (options_or_cut order (length (options_in block)) (options_in block) (omega arith))
event_or_fault_of is order block Enhanced kind there = frame_or_fault is order block
    Enhanced (sym kind) tt there
event_or_fault_of is order block Old kind there = frame_or_fault is order block
    Old (sym kind) tt there
event_or_fault_of is order block Simple kind there = frame_or_fault is order block
    Simple (sym kind) tt there
event_or_fault_of is order block Unread kind there = inl (passed_over, kind)

event_or_fault : (is : List Interface) (order : ByteOrder) (block : List ℕ)
    → EventOrFault is order block
unfolding EventOrFault
event_or_fault is order block =
    let least = fixed_len (block_kind order block) in elim (cases_lt (length block) least) [
      | inl short ↦ inr (ShortBlock, inl (short, refl))
      | inr there ↦ event_or_fault_of is order block (block_kind order block) refl there
    ]

-- a section's blocks
section_piece_or_stop : (section : ByteOrder) (before : Context) (bytes : List ℕ)
    → length before.interfaces ≤ 256 → ((piece : PieceContent) × (after : Context)
    × IsBlockPiece section before bytes piece after) ⊎ ((stop : NoPiece)
    × StopsInSection section before bytes stop)
unfolding EventOrFault
section_piece_or_stop section before bytes few = elim (block_or_stop section bytes) [
  | inr stop ↦ inr (stop.0, inl stop.1)
  | inl (order, block, whole) ↦ elim (event_or_fault before.interfaces order block) [
    | inr (fault, why) ↦ inr (
      Bad fault,
      inr (record {
        order = order;
        block = block;
        is_block =
            whole;
        fault = fault;
        stop_is = refl;
        why = inl why;
      }),
    )
    | inl (event, says) ↦ event_piece_or_stop section before bytes order block event few whole says
  ]
]
  where
    piece_of_block : (section : ByteOrder) (before : Context) (bytes : List ℕ) (order : ByteOrder)
        (block : List ℕ) (event : BlockEvent)
        → length (interfaces_after before.interfaces event) ≤ 256
        → IsBlock section bytes order block → BlockSays before.interfaces order block event
        → ((piece : PieceContent) × (after : Context) × IsBlockPiece section before bytes piece
        after) ⊎ ((stop : NoPiece) × StopsInSection section before bytes stop)
    piece_of_block section before bytes order block event few whole says = inl (
      record {
        len = length block;
        frame = frame_in_event event;
        dropped = report_of order block;
      },
      record { format = InSection order; interfaces = interfaces_after before.interfaces event },
      record {
        order = order;
        block = block;
        is_block = whole;
        event = event;
        says = says;
        few =
            few;
        len = refl;
        frame = refl;
        dropped = refl;
        after_is = refl;
      },
    )

    event_piece_or_stop : (section : ByteOrder) (before : Context) (bytes : List ℕ)
        (order : ByteOrder) (block : List ℕ) (event : BlockEvent) → length before.interfaces ≤ 256
        → IsBlock section bytes order block → BlockSays before.interfaces order block event
        → ((piece : PieceContent) × (after : Context) × IsBlockPiece section before bytes piece
        after) ⊎ ((stop : NoPiece) × StopsInSection section before bytes stop)
    event_piece_or_stop section before bytes order block section_begins few whole says =
        piece_of_block section before bytes order block section_begins (omega arith) whole says
    event_piece_or_stop section before bytes order block (frame_came f) few whole says =
        piece_of_block section before bytes order block (frame_came f) few whole says
    event_piece_or_stop section before bytes order block passed_over few whole says = piece_of_block
        section before bytes order block passed_over few whole says
    event_piece_or_stop section before bytes order block (interface_added i) few whole says =
        elim (cases_lt (length before.interfaces) 256) [
          | inl room ↦ piece_of_block section before bytes order block (interface_added i)
              (omega (arith, length-append before.interfaces (i ∷ []))) whole says
          | inr full ↦ inr (
            Bad TooManyInterfaces,
            inr (record {
              order = order;
              block = block;
              is_block = whole;
              fault = TooManyInterfaces;
              stop_is = refl;
              why = inr (
                interface_added i,
                says,
                record {
                  interface = i;
                  event_is =
                      refl;
                  full = full;
                  fault_is = refl;
                },
              );
            }),
          )
        ]

piece_or_stop_in : (format : Format) (before : Context) (bytes : List ℕ)
    → length before.interfaces ≤ 256 → PieceOrStop format before bytes
unfolding PieceOrStop
piece_or_stop_in Start before bytes few = elim (cases_lt (length bytes) 4) [
  | inl short ↦ inr (Wants 4, inl (short, refl))
  | inr there ↦ elim (option_cases (magic_at bytes)) [
    | inr (magic, is) ↦ elim (header_or_stop bytes magic is) [
      | inl (s, begins) ↦ inl (
        record { len = 24; frame = None; dropped = Silent },
        record {
          format = InSavefile s;
          interfaces = [];
        },
        inl (record {
          there = there;
          savefile = s;
          begins = begins;
          len = refl;
          frame = refl;
          dropped = refl;
          after_is = refl;
        }),
      )
      | inr (stop, why) ↦ inr (stop, inr (inr (inl (there, (magic, is), why))))
    ]
    | inl none ↦ elim (cases_eq (u32_in Big bytes 0) 168627466) [
      | inr other ↦ inr (Bad NotCapture, inr (inl (there, none, other, refl)))
      | inl section ↦ elim (section_piece_or_stop Big before bytes few) [
        | inl (piece, after, is) ↦ inl (
          piece,
          after,
          inr (record { there = there; no_savefile = none; section = section; block = is }),
        )
        | inr (stop, why) ↦ inr (stop, inr (inr (inr (there, none, section, why))))
      ]
    ]
  ]
]
piece_or_stop_in (InSavefile s) before bytes few = elim (record_or_stop s bytes) [
  | inl (f, is) ↦ inl (
    record { len = 16 + captured_at s bytes; frame = Some f; dropped = Silent },
    before,
    record {
      frame = f;
      is_record = is;
      len = refl;
      frame_is = refl;
      dropped = refl;
      after_is = refl;
    },
  )
  | inr stop ↦ inr stop
]
piece_or_stop_in (InSection order) before bytes few = section_piece_or_stop order before bytes few

pub piece_or_stop : (before : Context) (bytes : List ℕ) → length before.interfaces ≤ 256
    → ((piece : PieceContent) × (after : Context) × IsPiece before bytes piece after)
    ⊎ ((stop : NoPiece) × StopsReading before bytes stop)
unfolding PieceOrStop
piece_or_stop before bytes few = piece_or_stop_in before.format before bytes few
