-- Snapshots of a demonstration, and how many bytes they have, worked out by hand.
use Rattle.std.specs.Prelude.{◌≡◌, codes}
use Rattle.snap_demo_laws.specs.Fresh.{demo_snapshot, bytes_meant}

-- of the first request, where its number is 0 and where it is 7
abbrev pub AreSnapshots : Type 0
AreSnapshots =
    (demo_snapshot 0 0 ≡ codes "---\nsource: src/d0/demo.rs\nexpression: demo\n---\nid: 0\nseed: 0\ntags: []\nnote: plain\n")
    × (demo_snapshot 0 7 ≡ codes "---\nsource: src/d0/demo.rs\nexpression: demo\n---\nid: 0\nseed: 7\ntags:\n  - t0\n  - t1\n  - t2\nnote: \"0o17\"\n")

-- of no request, and of one with either number: the header has 48 bytes with both its fences, and the values have 35 and 54
abbrev pub AreBytes : Type 0
AreBytes = (bytes_meant 0 7 0 ≡ 0) × (bytes_meant 0 0 1 ≡ 83) × (bytes_meant 0 7 1 ≡ 102)
