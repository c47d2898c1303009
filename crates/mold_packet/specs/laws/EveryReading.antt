-- Bytes spell a packet, or have a fault; and a request.
use Rattle.std.proofs.Common.{◌≡◌, ℕ, zero, suc, ◌+◌, ◌^◌, ◌<◌, ◌≤◌, Bool, List, [], ◌∷◌, ◌++◌, length, take, drop, refl, sym, ap, ◌∙◌, append_assoc, arith, inl, inr}
use Rattle.std.specs.Prelude.{◌⊎◌, if◌then◌else◌}
use Rattle.std.specs.Int.{w16, to_be_bytes, from_be_bytes}
use Rattle.std.proofs.lemmas.Bool.{cases_lt, cases_eq, ne_eqb}
use Rattle.std.proofs.lemmas.Nat.{be_bytes_2}
use Rattle.std.proofs.lemmas.List.{take-append-drop, length-take, get_or-drop}
use Rattle.mold_packet.specs.declared.packet.Kind.{Kind}
use Rattle.mold_packet.specs.declared.packet.Kind.TheVariants.{Messages, Heartbeat, End}
use Rattle.mold_packet.specs.declared.fault.PacketFault.{PacketFault}
use Rattle.mold_packet.specs.declared.fault.PacketFault.TheVariants.{ShortHeader, TruncatedBlock, ZeroSequence, SequenceOverflow, BadRequestLength}
use Rattle.mold_packet.specs.declared.request.Request.{Request}
use Rattle.mold_packet.specs.Bytes.{AreBytes}
use Rattle.mold_packet.specs.Block.{block, IsMessage, IsCut, HasBlocks, CutShort}
use Rattle.mold_packet.specs.Content.{Content, KindFits, count_field, Spells}
use Rattle.mold_packet.specs.Faults.{blocks_wanted, IsWhole, HasFault}
use Rattle.mold_packet.specs.Header.{session_at, number_at, count_at}
use Rattle.mold_packet.specs.Request.{SpellsRequest, HasRequestFault}
use Rattle.mold_packet.specs.laws.Cutting.{flat_map-first}
use Rattle.mold_packet.specs.laws.HeaderFields.{part_is, whole_header}
use Rattle.mold_packet.specs.laws.Spelling.{spells_from}

-- what follows the first of bytes are bytes
behind : (n : ℕ) (bytes : List ℕ) → AreBytes bytes → AreBytes (drop n bytes)
behind n bytes h i = rw (get_or-drop n bytes i 0) (h (n + i))

two : (high low : ℕ) (body : List ℕ) → AreBytes (high ∷ low ∷ body) → AreBytes (high ∷ low ∷ [])
two high low body h zero = h 0
two high low body h (suc zero) = h 1
two high low body h (suc (suc i)) = omega arith

-- a block at the front, and what follows it
record HasFirst (bytes : List ℕ) : Type 0 where
  message : List ℕ
  after : List ℕ
  short : IsMessage message
  is : bytes ≡ block message ++ after
  are : AreBytes after

first_or_cut : (bytes : List ℕ) → AreBytes bytes → HasFirst bytes ⊎ IsCut bytes
first_or_cut [] h = inr tt
first_or_cut (high ∷ []) h = inr tt
first_or_cut (high ∷ low ∷ body) h =
    elim (cases_lt (length body) (from_be_bytes w16 (high ∷ low ∷ []))) [
      | inl lt ↦ inr lt
      | inr le ↦
          let len : ℕ = from_be_bytes w16 (high ∷ low ∷ []) in
          let first : length (take len body) ≡ len = omega (arith, length-take len body) in
          let field : to_be_bytes w16 (length (take len body)) ≡ high ∷ low ∷ [] =
          be_bytes_2 (high ∷ low ∷ []) (length (take len body)) refl (two high low body h) first in
          inl (record {
            message = take len body;
            after = drop len body;
            short = let a = h 0 in let b = h 1 in omega arith;
            is =
                sym (append_assoc (to_be_bytes w16 (length (take len body))) (take len body)
                (drop len body)
                ∙ ap (λ (x : List ℕ). x ++ (take len body ++ drop len body)) field
                ∙ ap (λ (x : List ℕ). high ∷ low ∷ x) (take-append-drop len body));
            are = behind len body (λ i. h (suc (suc i)));
          })
    ]

-- `n` blocks are there, or one of them is cut
record AreThere (n : ℕ) (bytes : List ℕ) : Type 0 where
  messages : List (List ℕ)
  rest : List ℕ
  blocks : HasBlocks n bytes messages rest

one_more_there : (n : ℕ) (bytes : List ℕ) (first : HasFirst bytes) → AreThere n first.after
    → AreThere (suc n) bytes
one_more_there n bytes first h = record {
  messages = first.message ∷ h.messages;
  rest = h.rest;
  blocks = record {
    count = ap suc h.blocks.count;
    each = (first.short, h.blocks.each);
    spelled =
        first.is ∙ ap (λ (x : List ℕ). block first.message ++ x) h.blocks.spelled
        ∙ sym (flat_map-first first.message h.messages h.rest);
  };
}

one_more_cut : (n : ℕ) (bytes : List ℕ) (first : HasFirst bytes) → CutShort n first.after
    → CutShort (suc n) bytes
one_more_cut n bytes first h = record {
  whole = first.message ∷ h.whole;
  part = h.part;
  fewer = let few = h.fewer in omega arith;
  each = (first.short, h.each);
  spelled =
      first.is ∙ ap (λ (x : List ℕ). block first.message ++ x) h.spelled
      ∙ sym (flat_map-first first.message h.whole h.part);
  cut = h.cut;
}

there_or_cut : (n : ℕ) (bytes : List ℕ) → AreBytes bytes → AreThere n bytes ⊎ CutShort n bytes
there_or_cut zero bytes h =
    inl (record {
      messages = [];
      rest = bytes;
      blocks =
          record { count = refl; each = tt; spelled = refl };
    })
there_or_cut (suc n) bytes h = elim (first_or_cut bytes h) [
  | inr cut ↦ inr (record {
    whole = [];
    part = bytes;
    fewer = omega arith;
    each = tt;
    spelled =
        refl;
    cut = cut;
  })
  | inl first ↦ elim (there_or_cut n first.after first.are) [
    | inl there ↦ inl (one_more_there n bytes first there)
    | inr cut ↦ inr (one_more_cut n bytes first cut)
  ]
]

no_messages : (messages : List (List ℕ)) → length messages ≡ 0 → messages ≡ []
no_messages [] none = refl
no_messages (m ∷ messages) none = absurd (omega arith)

count_small : (bytes : List ℕ) → AreBytes bytes → count_at bytes < 2 ^ 16
count_small bytes h = let at = part_is bytes 18 2 h in let a = at 0 in let b = at 1 in omega arith

number_small : (bytes : List ℕ) → AreBytes bytes → number_at bytes < 2 ^ 64
number_small bytes h =
    let at = part_is bytes 10 8 h in
    let a = at 0 in
    let b = at 1 in
    let c = at 2 in
    let d = at 3 in
    let e = at 4 in
    let f = at 5 in
    let g = at 6 in
    let i = at 7 in
    omega arith

-- a header and all its blocks, with numbers in their range, are a packet
module _ (bytes : List ℕ) (are : AreBytes bytes) (long : 20 ≤ length bytes)
    (there : AreThere (blocks_wanted (count_at bytes)) (drop 20 bytes)) (one : 1 ≤ number_at bytes)
    (within : number_at bytes + blocks_wanted (count_at bytes) ≤ 2 ^ 64) where
  abbrev content : Kind → Content
  content kind =
      record {
        session = session_at bytes;
        number = number_at bytes;
        kind = kind;
        messages =
            there.messages;
        ignored = length there.rest;
      }

  spells : (kind : Kind) → KindFits kind there.messages
      → count_field kind there.messages ≡ count_at bytes
      → (packet : Content) × (rest : List ℕ) × Spells bytes packet rest
  spells kind fits count = (
    content kind,
    there.rest,
    spells_from bytes (content kind) there.rest long are (record {
      session = omega (arith, length-take 10 bytes);
      from_one = one;
      small = number_small bytes are;
      in_range = omega (arith, there.blocks.count);
      fits = fits;
      each = there.blocks.each;
    }) refl refl count there.blocks.spelled refl,
  )

  none : blocks_wanted (count_at bytes) ≡ 0 → there.messages ≡ []
  none wanted = no_messages there.messages (there.blocks.count ∙ wanted)

  reading : (packet : Content) × (rest : List ℕ) × Spells bytes packet rest
  reading = elim (cases_eq (count_at bytes) 0) [
    | inl heartbeat ↦ spells Heartbeat (none (ap blocks_wanted heartbeat)) (sym heartbeat)
    | inr some ↦ elim (cases_eq (count_at bytes) 65535) [
      | inl end ↦ spells End (none (ap blocks_wanted end)) (sym end)
      | inr few ↦
          let wanted : blocks_wanted (count_at bytes) ≡ count_at bytes =
          ap (λ (t : Bool). if t then 0 else count_at bytes) (ne_eqb (count_at bytes) 65535 few)
          in
          let count : length there.messages ≡ count_at bytes = there.blocks.count ∙ wanted in
          let small = count_small bytes are in
          spells Messages (omega arith, omega arith) count
    ]
  ]

pub read_or_fault : (bytes : List ℕ) → AreBytes bytes
    → ((packet : Content) × (rest : List ℕ) × Spells bytes packet rest)
    ⊎ ((fault : PacketFault) × HasFault bytes fault)
read_or_fault bytes are = elim (cases_lt (length bytes) 20) [
  | inl short ↦ inr (ShortHeader, short)
  | inr long ↦ elim (there_or_cut (blocks_wanted (count_at bytes)) (drop 20 bytes)
      (behind 20 bytes are)) [
        | inr cut ↦ inr (TruncatedBlock, (long, cut))
        | inl there ↦
            let whole : IsWhole bytes =
            record {
              header = long;
              messages = there.messages;
              rest = there.rest;
              blocks =
                  there.blocks;
            } in
            elim (cases_eq (number_at bytes) 0) [
              | inl zero_ ↦ inr (ZeroSequence, (whole, zero_))
              | inr one ↦ elim
                  (cases_lt (2 ^ 64) (number_at bytes + blocks_wanted (count_at bytes))) [
                    | inl over ↦ let small =
                        number_small bytes are in
                        inr (SequenceOverflow, (whole, omega arith, omega arith, over))
                    | inr within ↦ inl (reading bytes are long there (omega arith) within)
                  ]
            ]
      ]
]

pub request_or_fault : (bytes : List ℕ) → AreBytes bytes
    → ((request : Request) × SpellsRequest bytes request)
    ⊎ ((fault : PacketFault) × HasRequestFault bytes fault)
request_or_fault bytes are = elim (cases_eq (length bytes) 20) [
  | inl exact ↦ inl (
    record { session = session_at bytes; number = number_at bytes; count = count_at bytes },
    record {
      session = omega (arith, length-take 10 bytes);
      small = number_small bytes are;
      few = count_small bytes are;
      spelled =
          whole_header bytes (session_at bytes) (number_at bytes) (count_at bytes) exact are refl
          refl refl;
    },
  )
  | inr bad ↦ inr (BadRequestLength, bad)
]
