-- VLAN tags one after the other.
use Rattle.std.proofs.Common.{◌≡◌, ℕ, zero, suc, ◌+◌, ◌<◌, ◌≤◌, Bool, true, false, List, length, refl, sym, ap, ◌∙◌, arith}
use Rattle.std.specs.Prelude.{if◌then◌else◌}
use Rattle.packet_capture.specs.declared.fields.ByteOrder.TheVariants.{Big}
use Rattle.packet_capture.specs.declared.link.TypedHeader.{TypedHeader}
use Rattle.packet_capture.specs.Fields.{u16_in}
use Rattle.packet_capture.specs.Links.{is_tag, with_tag, with_tags, tagged}

-- a header whose type is no tag
pub untagged : (most : ℕ) (h : TypedHeader) (frame : List ℕ)
    → is_tag (u16_in Big frame h.type_at) ≡ false → with_tags most h frame ≡ h
untagged zero h frame none = refl
untagged (suc most) h frame none =
    ap (λ (b : Bool). if b then with_tags most (with_tag h) frame else h) none

-- tags make no header shorter
longer_if : (b : Bool) (h t : TypedHeader) → h.len ≤ t.len → h.len ≤ (if b then t else h).len
longer_if true h t longer = longer
longer_if false h t longer = omega arith

longer : (most : ℕ) (h : TypedHeader) (frame : List ℕ) → h.len ≤ (with_tags most h frame).len
longer zero h frame = omega arith
longer (suc most) h frame =
    let more = longer most (with_tag h) frame in
    longer_if (is_tag (u16_in Big frame h.type_at)) h (with_tags most (with_tag h) frame)
    (omega (arith, more))

-- the header so far, of which all tags are left that the frame has room for
pub record TagsLeft (bare : TypedHeader) (frame : List ℕ) (h : TypedHeader) : Type 0 where
  pub most : ℕ
  pub same : tagged bare frame ≡ with_tags most h frame
  pub enough : length frame < most + h.len
  pub typed : h.type_at + 2 ≤ h.len

pub tags_left : (bare : TypedHeader) (frame : List ℕ) → 0 < bare.len
    → bare.type_at + 2 ≤ bare.len → TagsLeft bare frame bare
tags_left bare frame some typed = record {
  most = length frame;
  same = refl;
  enough = omega arith;
  typed = typed;
}

one_tag : (most : ℕ) (bare : TypedHeader) (frame : List ℕ) (h : TypedHeader)
    → tagged bare frame ≡ with_tags most h frame → length frame < most + h.len
    → h.len ≤ length frame → is_tag (u16_in Big frame h.type_at) ≡ true
    → TagsLeft bare frame (with_tag h)
one_tag zero bare frame h same enough there tag = absurd (omega arith)
one_tag (suc most) bare frame h same enough there tag = record {
  most = most;
  same = same ∙ ap (λ (b : Bool). if b then with_tags most (with_tag h) frame else h) tag;
  enough = omega arith;
  typed = omega arith;
}

pub tag_more : (bare : TypedHeader) (frame : List ℕ) (h : TypedHeader) → TagsLeft bare frame h
    → h.len ≤ length frame → is_tag (u16_in Big frame h.type_at) ≡ true
    → TagsLeft bare frame (with_tag h)
tag_more bare frame h left there tag = one_tag left.most bare frame h left.same left.enough there
    tag

pub tags_end : (bare : TypedHeader) (frame : List ℕ) (h : TypedHeader) → TagsLeft bare frame h
    → is_tag (u16_in Big frame h.type_at) ≡ false → h ≡ tagged bare frame
tags_end bare frame h left none = sym (left.same ∙ untagged left.most h frame none)

pub tags_cut : (bare : TypedHeader) (frame : List ℕ) (h : TypedHeader) → TagsLeft bare frame h
    → length frame < h.len → length frame < (tagged bare frame).len
tags_cut bare frame h left cut =
    let more = longer left.most h frame in
    let len : (tagged bare frame).len ≡ (with_tags left.most h frame).len =
    ap (λ (x : TypedHeader). x.len) left.same in
    omega (arith, more, len)
