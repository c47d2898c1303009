-- What is told beside what the program says: before a terminal is read; of an input that is no
-- capture of this project's own, by the number of its first four bytes, the first of them the
-- highest; and, at a terminal, of a full journal.
use Rattle.std.specs.Prelude.{ℕ, ◌/◌, ◌==◌, Bool, ◌||◌, List, [], codes, if◌then◌else◌}

-- one line, before a terminal is read
abbrev pub hint_text : Bool → List ℕ
hint_text at_terminal =
    if at_terminal
    then codes "nbbo: reading a capture from the terminal ('nbbo replay --help' tells more)\n"
    else []

-- the first bytes of pcap, in either order of bytes, with microseconds and then with nanoseconds,
-- and of pcapng
abbrev pub is_packets : ℕ → Bool
is_packets start =
    (start == 3569595041)
    || ((start == 2712847316)
    || ((start == 1295823521) || ((start == 2712812621) || (start == 168627466))))

-- one line, where the input begins with the bytes of gzip, bzip2, zstd, xz or lz4
abbrev pub packed_hint : ℕ → List ℕ
packed_hint start =
    if start / 65536 == 8075
    then codes "nbbo: the input is in gzip; to unpack it write 'zcat FILE | nbbo ..'\n"
    else if start / 256 == 4348520
    then codes "nbbo: the input is in bzip2; to unpack it write 'bzcat FILE | nbbo ..'\n"
    else if start == 682962941
    then codes "nbbo: the input is in zstd; to unpack it write 'zstdcat FILE | nbbo ..'\n"
    else if start == 4248271448
    then codes "nbbo: the input is in xz; to unpack it write 'xzcat FILE | nbbo ..'\n"
    else if start == 69356824
    then codes "nbbo: the input is in lz4; to unpack it write 'lz4cat FILE | nbbo ..'\n"
    else []

-- one line, where the input is a packet capture, or that one
abbrev pub format_hint : ℕ → List ℕ
format_hint start =
    if is_packets start
    then codes
    "nbbo: the input is a packet capture (pcap or pcapng); --lines LIST says which of its datagrams to replay\n"
    else packed_hint start

-- one line, where the journal was full
abbrev pub journal_hint : Bool → List ℕ
journal_hint is_full =
    if is_full then codes "nbbo: --journal N gives the journal room for N entries\n" else []
