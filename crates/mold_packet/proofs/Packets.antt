-- A packet that was written is its spelling.
use Rattle.std.proofs.Common.{◌≡◌, ℕ, ◌+◌, ◌-◌, ◌^◌, ◌<◌, ◌≤◌, Bor, List, [], ◌++◌, length, take, drop, refl, sym, ap, ◌∙◌, arith, length-append}
use Rattle.std.specs.List.{flat_map}
use Rattle.std.proofs.lemmas.List.{append-nil, length-map}
use Rattle.mold_packet.specs.declared.body.Body.{Body}
use Rattle.mold_packet.specs.declared.body.Body.TheVariants.{Blocks, Heartbeat, End}
use Rattle.mold_packet.specs.Block.{block}
use Rattle.mold_packet.specs.Body.{BodyFits, lent_bytes, body_kind, body_messages, packet_of}
use Rattle.mold_packet.specs.Content.{IsContent, count_field, spelling, Spells}
use Rattle.mold_packet.specs.Header.{header}
use Rattle.mold_packet.specs.laws.HeaderFields.{length-header}
use Rattle.mold_packet.specs.laws.Overwriting.{tail_written, take_front, writes_first}
use Rattle.mold_packet.specs.Writing.{WritesFirst}
use borrow.Rule.Slice.PartMut.{put_mid}

pub IsContent-packet_of : (session : List ℕ) (number : ℕ) (body : Body) → length session ≡ 10
    → 1 ≤ number → number < 2 ^ 64 → BodyFits number body
    → IsContent (packet_of session number body)
IsContent-packet_of session number (Blocks blocks) ten one small fits =
    let few = fits.1 in
    let count : length (lent_bytes blocks.now) ≡ length blocks.now = length-map blocks.now
    (λ (b : Bor (List ℕ)). b.now) in
    record {
      session = ten;
      from_one = one;
      small = small;
      in_range = omega (arith, fits.2);
      fits =
          (omega (arith, fits.0), omega (arith, fits.1));
      each = fits.3;
    }
IsContent-packet_of session number Heartbeat ten one small fits = record {
  session = ten;
  from_one =
      one;
  small = small;
  in_range = omega arith;
  fits = refl;
  each = tt;
}
IsContent-packet_of session number End ten one small fits = record {
  session = ten;
  from_one = one;
  small = small;
  in_range = omega arith;
  fits = refl;
  each = tt;
}

-- what the code read of the body, and what the header and the blocks left in the buffer
pub record Steps (session : List ℕ) (number : ℕ) (body : Body) (old headed blocks : List ℕ)
    (len : ℕ) : Type 0 where
  pub count : ℕ
  pub messages : List (List ℕ)
  pub ten : length session ≡ 10
  pub count_is : count ≡ count_field (body_kind body) (body_messages body)
  pub messages_are : messages ≡ body_messages body
  pub len_is : len ≡ length (flat_map block messages)
  pub headed_is : headed ≡ header session number count ++ drop 20 old
  pub blocks_are : blocks ≡ flat_map block messages ++ drop (length (flat_map block messages))
      (take (length headed - 20) (drop 20 headed))

length-spelling : {session : List ℕ} {number : ℕ} {body : Body} {old headed blocks : List ℕ}
    {len : ℕ} → Steps session number body old headed blocks len
    → length (spelling (packet_of session number body)) ≡ 20 + len
length-spelling {session} {number} {body} s =
    let front : List ℕ = header session number (count_field (body_kind body) (body_messages body))
    in
    omega (
      arith,
      length-append front (flat_map block (body_messages body)),
      length-header session
          number (count_field (body_kind body) (body_messages body)) s.ten,
      ap (λ (x : List (List ℕ)). length (flat_map block x)) s.messages_are,
      s.len_is,
    )

spelling_written : {session : List ℕ} {number : ℕ} {body : Body} {old headed blocks : List ℕ}
    {len : ℕ} → Steps session number body old headed blocks len
    → put_mid 20 (length headed - 20) headed blocks ≡ spelling (packet_of session number body)
    ++ drop (20 + len) old
spelling_written {session} {number} {body} {old} {headed} {blocks} {len} s =
    tail_written headed (header session number s.count) old blocks (flat_map block s.messages) 20
    (length (flat_map block s.messages)) s.headed_is (length-header session number
    s.count s.ten) s.blocks_are
    ∙ ap (λ (x : ℕ). (header session number x ++ flat_map block s.messages)
    ++ drop (20 + length (flat_map block s.messages)) old) s.count_is
    ∙ ap (λ (x : List (List ℕ)). (header session number (count_field (body_kind body)
    (body_messages body)) ++ flat_map block x)
    ++ drop (20 + length (flat_map block s.messages)) old) s.messages_are
    ∙ ap (λ (x : ℕ). spelling (packet_of session number body) ++ drop (20 + x) old) (sym s.len_is)

pub Spells-written : {session : List ℕ} {number : ℕ} {body : Body} {old headed blocks : List ℕ}
    {len : ℕ} → Steps session number body old headed blocks len
    → IsContent (packet_of session number body)
    → Spells (take (20 + len) (put_mid 20 (length headed - 20) headed blocks))
    (packet_of session number body) []
Spells-written {session} {number} {body} {old} {headed} {blocks} {len} s content = record {
  content = content;
  ignored = refl;
  spelled = take_front (20 + len) (spelling (packet_of session number body)) old _
      (length-spelling s) (spelling_written s)
      ∙ sym (append-nil (spelling (packet_of session number body)));
}

pub WritesFirst-written : {session : List ℕ} {number : ℕ} {body : Body} {old headed blocks : List ℕ}
    {len : ℕ} → Steps session number body old headed blocks len → 20 + len ≤ length old
    → WritesFirst (20 + len) old (put_mid 20 (length headed - 20) headed blocks)
WritesFirst-written {session} {number} {body} {old} {headed} {blocks} {len} s room =
    writes_first (20 + len) (spelling (packet_of session number body)) old _ (length-spelling s)
    room (spelling_written s)
