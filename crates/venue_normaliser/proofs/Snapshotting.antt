-- Bytes that are a snapshot, or aren't.
use Rattle.std.proofs.Common.{◌≡◌, ℕ, zero, suc, ◌+◌, ◌-◌, ◌<◌, ◌≤◌, true, false, List, [], ◌∷◌, ◌++◌, length, take, drop, refl, sym, ap, subst, ◌∙◌, arith, append_assoc, append-nil, length-append, IsTrue}
use Rattle.std.specs.Int.{w16, to_be_bytes}
use Rattle.std.specs.List.{flat_map, AllByRecursion}
use Rattle.mold_packet.specs.Block.{AreBlocks, IsCut, IsMessage, block, block_len, blocks_at}
use Rattle.mold_packet.specs.laws.Cutting.{are_blocks, cut_off, first_off, flat_map-first, not_cut, one_more}
use Rattle.venue_normaliser.specs.declared.snapshot_fault.SnapshotFault.TheVariants.{Cut, NoEnd, NotOfSnapshot, BadNumber, AfterEnd}
use Rattle.venue_normaliser.specs.Inside.{HasStated}
use Rattle.venue_normaliser.specs.Snapshots.{BeginsSnapshot, EndsSnapshot, StopsWith, HasSnapshotFault, IsSnapshot, is_end_form, is_of_snapshot}

pub stated_none : (bytes : List ℕ) → HasStated 0 bytes bytes
stated_none bytes = record {
  messages = [];
  blocks = record { count = refl; each = tt; spelled = refl };
  stated = tt;
}

push : (P : List ℕ → Type 0) (ms : List (List ℕ)) (m : List ℕ) → AllByRecursion P ms → P m
    → AllByRecursion P (ms ++ m ∷ [])
push P [] m all one = (one, tt)
push P (x ∷ xs) m all one = (all.0, push P xs m all.1 one)

pub stated_more : (count : ℕ) (bytes rest m after : List ℕ) → HasStated count bytes rest
    → rest ≡ block m ++ after → IsMessage m → is_of_snapshot m ≡ true
    → HasStated (count + 1) bytes after
stated_more count bytes rest m after so found fits is = record {
  messages = so.messages ++ m ∷ [];
  blocks = one_more m after so.blocks found fits;
  stated = push (λ message. IsTrue (is_of_snapshot message)) so.messages m so.stated is;
}

begins : (count : ℕ) (bytes rest : List ℕ) → (so : HasStated count bytes rest)
    → BeginsSnapshot bytes so.messages rest
begins count bytes rest so = record {
  each = so.blocks.each;
  states = so.stated;
  spelled = so.blocks.spelled;
}

at_byte : (count : ℕ) (bytes rest : List ℕ) (byte : ℕ) (so : HasStated count bytes rest)
    → byte ≡ length bytes - length rest → byte ≡ length (flat_map block so.messages)
at_byte count bytes rest byte so is =
    let len = ap length so.blocks.spelled in
    omega (arith, length-append (flat_map block so.messages) rest)

goes_on : (count : ℕ) (bytes rest : List ℕ) (byte : ℕ) (is : List ℕ → Type 0)
    → HasStated count bytes rest → byte ≡ length bytes - length rest → is rest
    → StopsWith bytes byte is
goes_on count bytes rest byte is so at cause = record {
  messages = so.messages;
  rest = rest;
  begins = begins count bytes rest so;
  at = at_byte count bytes rest byte so at;
  cause = cause;
}

pub fault_none : (count : ℕ) (bytes rest : List ℕ) (byte : ℕ) → HasStated count bytes rest
    → byte ≡ length bytes - length rest → rest ≡ [] → HasSnapshotFault bytes (NoEnd byte)
fault_none count bytes rest byte so at none =
    goes_on count bytes rest byte (λ r. r ≡ []) so at none

pub fault_cut : (count : ℕ) (bytes rest : List ℕ) (byte : ℕ) → HasStated count bytes rest
    → byte ≡ length bytes - length rest → 0 < length rest → IsCut rest
    → HasSnapshotFault bytes (Cut byte)
fault_cut count bytes rest byte so at some cut =
    goes_on count bytes rest byte _ so at (record { some = some; cut = cut })

pub fault_other : (count : ℕ) (bytes rest m after : List ℕ) (byte : ℕ)
    → HasStated count bytes rest → byte ≡ length bytes - length rest → rest ≡ block m ++ after
    → IsMessage m → is_of_snapshot m ≡ false → is_end_form m ≡ false
    → HasSnapshotFault bytes (NotOfSnapshot byte)
fault_other count bytes rest m after byte so at found fits none not_end =
    goes_on count bytes rest byte _ so at (record {
      message = m;
      after = after;
      spelled = found;
      fits = fits;
      none = none;
      not_end = not_end;
    })

pub fault_number : (count : ℕ) (bytes rest m after : List ℕ) (byte : ℕ)
    → HasStated count bytes rest → byte ≡ length bytes - length rest → rest ≡ block m ++ after
    → IsMessage m → is_end_form m ≡ true → ((n : ℕ) → EndsSnapshot m n → ⊥)
    → HasSnapshotFault bytes (BadNumber byte)
fault_number count bytes rest m after byte so at found fits form none =
    goes_on count bytes rest byte _ so at (record {
      message = m;
      after = after;
      spelled = found;
      fits = fits;
      form = form;
      none = none;
    })

pub fault_after : (count : ℕ) (bytes rest m after : List ℕ) (byte number : ℕ)
    → HasStated count bytes rest → byte ≡ length bytes - length after → rest ≡ block m ++ after
    → EndsSnapshot m number → 0 < length after → HasSnapshotFault bytes (AfterEnd byte)
fault_after count bytes rest m after byte number so at found ends some =
    let snapshot = flat_map block so.messages ++ block m in
    let spelled : bytes ≡ snapshot ++ after =
    so.blocks.spelled ∙ ap (λ (xs : List ℕ). flat_map block so.messages ++ xs) found
    ∙ sym (append_assoc (flat_map block so.messages) (block m) after) in
    let len = ap length spelled in
    record {
      messages = so.messages;
      number = number;
      snapshot = snapshot;
      after = after;
      is = record {
        end = m;
        ends = ends;
        begins = record { each = so.blocks.each; states = so.stated; spelled = refl };
      };
      spelled = spelled;
      at = omega (arith, length-append snapshot after);
      some = some;
    }

pub whole : (count : ℕ) (bytes rest m after : List ℕ) (byte number : ℕ)
    → HasStated count bytes rest → byte ≡ length bytes - length rest → rest ≡ block m ++ after
    → EndsSnapshot m number → after ≡ []
    → IsSnapshot bytes (blocks_at count (take byte bytes)) number
whole count bytes rest m after byte number so at found ends none =
    let same : blocks_at count (take byte bytes) ≡ so.messages =
    ap (λ (n : ℕ). blocks_at count (take n bytes)) at ∙ cut_off so.blocks in
    subst (λ (ms : List (List ℕ)). IsSnapshot bytes ms number) (sym same)
    (record {
      end = m;
      ends = ends;
      begins = record {
        each = so.blocks.each;
        states = so.stated;
        spelled = so.blocks.spelled ∙ ap (λ (xs : List ℕ). flat_map block so.messages ++ xs)
            (found ∙ ap (λ (xs : List ℕ). block m ++ xs) none ∙ append-nil (block m));
      };
    })

pub whole_blocks : (count : ℕ) (bytes rest : List ℕ) (byte : ℕ)
    → HasStated count bytes rest → byte ≡ length bytes - length rest
    → AreBlocks count (take byte bytes)
whole_blocks count bytes rest byte so at =
    subst (λ (n : ℕ). AreBlocks count (take n bytes)) (sym at) (are_blocks so.blocks)

-- ---- the blocks of several messages, one after another

pub some_block : (n : ℕ) (blocks : List ℕ) → AreBlocks n blocks → 0 < n → IsCut blocks → ⊥
some_block zero blocks all some cut = omega arith
some_block (suc n) blocks all some cut =
    let m = take (block_len blocks) (drop 2 blocks) in
    let rest = blocks_at n (drop (block_len blocks) (drop 2 blocks)) in
    not_cut m (flat_map block rest ++ []) all.each.0
    (subst (λ (b : List ℕ). IsCut b) (all.spelled ∙ flat_map-first m rest []) cut)

pub split_list : (n : ℕ) (blocks m rest : List ℕ) → AreBlocks n blocks → 0 < n
    → blocks ≡ block m ++ rest → IsMessage m → blocks_at n blocks ≡ m ∷ blocks_at (n - 1) rest
split_list n blocks m rest all some found fits = (first_off n blocks m rest some found fits all).0

pub split_rest : (n : ℕ) (blocks m rest : List ℕ) → AreBlocks n blocks → 0 < n
    → blocks ≡ block m ++ rest → IsMessage m → AreBlocks (n - 1) rest
split_rest n blocks m rest all some found fits = (first_off n blocks m rest some found fits all).1

pub empty_list : (xs : List ℕ) → length xs ≡ 0 → xs ≡ []
empty_list [] e = refl
empty_list (x ∷ xs) e = absurd cc

pub block_longer : (rest m after : List ℕ) → rest ≡ block m ++ after
    → length after + 1 ≤ length rest
block_longer rest m after found =
    let l = ap length found in
    let two : length (to_be_bytes w16 (length m)) ≡ 2 = refl in
    omega (
      arith,
      l,
      two,
      length-append (block m) after,
      length-append (to_be_bytes w16 (length m)) m,
    )

-- ---- what the functions' proofs search in

pub ruleset end_faults = (fault_other, fault_number)

pub ruleset faults_without_end = (fault_none, fault_cut)

pub ruleset splitting = (some_block, split_list, split_rest)
