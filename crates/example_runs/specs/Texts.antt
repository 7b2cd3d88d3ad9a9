-- This project's own: scenarios and the traces of their runs, as texts.
use Rattle.std.specs.Prelude.{ℕ, List, ◌++◌, codes}

-- ---- bytes of two guests

-- a poke of one guest; a peek and a poke of another
abbrev pub guests : List ℕ
guests =
    codes "tapscen 1\nregion 0 0 4096\nregion 1 0 4096\npoke 0 16 aa\npeek 1 16 1\npoke 1 16 bb\n"

-- its trace
abbrev pub guests_trace : List ℕ
guests_trace =
    codes "taptrace 1\nphase 0 1\nans 0 0 0 ok\nans 0 1 0 bytes 00\nans 0 2 0 ok\nguest 0\nstep 0 0 poke\n"
    ++ codes "guest 1\nstep 0 1 peek\nstep 0 2 poke\nend\n"

-- ---- a ring that isn't there

-- a backend for a ring that the vhost hasn't
abbrev pub no_ring : List ℕ
no_ring =
    codes "tapscen 1\nfile 0 1\nregion 0 0 4096\nvhost 0 0\nbackend 0 2 0\n"

-- its trace: a refusal without a step
abbrev pub no_ring_trace : List ℕ
no_ring_trace =
    codes "taptrace 1\nphase 0 1\nans 0 0 0 verr ENOBUFS\nfile 0 0 0\nguest 0\nring 0 0\nbase 0\nring 0 1\n"
    ++ codes "base 0\nend\n"

-- ---- two workers

-- a file is served by a vhost of one guest, and then by one of another
abbrev pub workers : List ℕ
workers =
    codes "tapscen 1\nfile 0 4\nregion 0 0 65536\nregion 1 0 65536\nvhost 0 0\nvhost 1 1\n"
    ++ codes "setiff 0 tap0 5102\nhdrsize 0 12\nfeatures 0 0000000130008000\nfeatures 1 0000000130008000\n"
    ++ codes "vnum 0 0 2\ndrive 0 0 0\nvaddr 0 0 0 32 44\nbackend 0 0 0\npostin 0 0 100\n"
    ++ codes "send tap0 - 0200000000010200000000020800aabbccddeeff\n"
    ++ codes "send tap0 - 0200000000010200000000020800001122334455\nrxturn 0\nbackend 0 0 -\nvnum 1 0 2\n"
    ++ codes "drive 1 0 0\nvaddr 1 0 0 32 44\nbackend 1 0 0\npostin 1 0 100\nrxturn 1\n"
    ++ codes "send tap0 - 0200000000010200000000020800\nrxturn 1\nbackend 1 0 0\nclose 0\n"

-- its trace
abbrev pub workers_trace : List ℕ
workers_trace =
    codes "taptrace 1\nphase 0 1\nop 1 0 setiff 0 tap0 5102\nop 2 1 hdrsize 0 12\nop 3 7 back 0 rx 0\n"
    ++ codes "op 4 12 back 0 rx -\nop 5 16 back 0 rx 1\nans 0 0 1 ok 1\nans 0 1 2 ok 2\nans 0 2 2 ok\n"
    ++ codes "ans 0 3 2 ok\nans 0 4 2 ok\nans 0 5 2 ok\nans 0 6 2 ok\nans 0 7 3 ok 3\nans 0 8 3 posted 0\n"
    ++ codes "ans 0 9 3 placed 0 0 1 20\nans 0 10 3 placed 0 1 1 20\nans 0 11 3 turn 1 32 short 32 0\n"
    ++ codes "ans 0 12 4 ok 4\nans 0 13 4 ok\nans 0 14 4 ok\nans 0 15 4 ok\nans 0 16 5 ok 5\n"
    ++ codes "ans 0 17 5 posted 0\nans 0 18 5 turn 1 32 idle\nans 0 19 5 placed 0 2 1 14\n"
    ++ codes "ans 0 20 5 turn 0 0 short 26 0\nans 0 21 5 verr EBUSY\nans 0 22 5 err EBUSY Backed\nfile 0 3 3\n"
    ++ codes "line 0 1 0.9.0 20 guest\nline 1 1 0.10.0 20 guest\nline 2 1 0.19.0 14 waiting\nguest 0\n"
    ++ codes "step 0 2 features 0\nstep 0 4 num 0 0\nstep 0 5 drive 0 0\nstep 0 6 addr 0 0\n"
    ++ codes "step 0 7 backend 0 0 1\nstep 0 8 post 0 0\nstep 0 11 notices 0 0 0\nstep 0 11 fetch 0 0 0 0\n"
    ++ codes "step 0 11 copy 0 0 0 0.9.0\nstep 0 11 none 0 0\nstep 0 11 notices 0 0 1\nstep 0 11 none 0 0\n"
    ++ codes "step 0 11 publish 0 0 1 1\nstep 0 12 backend 0 0 1\nguest 1\nstep 0 3 features 1\n"
    ++ codes "step 0 13 num 1 0\nstep 0 14 drive 1 0\nstep 0 15 addr 1 0\nstep 0 16 backend 1 0 1\n"
    ++ codes "step 0 17 post 1 0\nstep 0 18 notices 1 0 0\nstep 0 18 fetch 1 0 0 0\n"
    ++ codes "step 0 18 copy 1 0 0 0.10.0\nstep 0 18 publish 1 0 1 1\nstep 0 20 notices 1 0 0\n"
    ++ codes "step 0 20 none 1 0\nstep 0 20 notices 1 0 1\nstep 0 20 none 1 0\nstep 0 21 backend 1 0 0\n"
    ++ codes "ring 0 0\nbase 0\nused 0 0 32\nring 0 1\nbase 0\nring 1 0\nbase 0\nused 0 0 32\nring 1 1\nbase 0\n"
    ++ codes "end\n"

-- ---- one place

-- two sends to a ring of one place, and a read
abbrev pub one_place : List ℕ
one_place =
    codes "tapscen 1\nfile 0 1\nsetiff 0 tap0 1102\nsend tap0 - 0200000000010200000000020800\n"
    ++ codes "send tap0 - 0200000000010200000000020800\nread 0 100\n"

-- its trace
abbrev pub one_place_trace : List ℕ
one_place_trace =
    codes "taptrace 1\nphase 0 1\nop 1 0 setiff 0 tap0 1102\nans 0 0 1 ok 1\nans 0 1 1 placed 0 0 1 14\n"
    ++ codes "ans 0 2 1 drop Full 0 1 0\nans 0 3 1 read 0.1.0 0 0200000000010200000000020800\nfile 0 1 1\n"
    ++ codes "line 0 1 0.1.0 14 read\nend\n"

-- ---- an empty line

-- a receive ring whose index a poke moves too far, and a turn without a frame
abbrev pub poked : List ℕ
poked =
    codes "tapscen 1\nfile 0 4\nregion 0 0 65536\nvhost 0 0\nsetiff 0 tap0 5102\nhdrsize 0 12\n"
    ++ codes "features 0 0000000100008000\nvnum 0 0 2\ndrive 0 0 0\nvaddr 0 0 0 32 44\nbackend 0 0 0\n"
    ++ codes "poke 0 34 0500\nrxturn 0\n"

-- its trace
abbrev pub poked_trace : List ℕ
poked_trace =
    codes "taptrace 1\nphase 0 1\nop 1 0 setiff 0 tap0 5102\nop 2 1 hdrsize 0 12\nop 3 6 back 0 rx 0\n"
    ++ codes "ans 0 0 1 ok 1\nans 0 1 2 ok 2\nans 0 2 2 ok\nans 0 3 2 ok\nans 0 4 2 ok\nans 0 5 2 ok\n"
    ++ codes "ans 0 6 3 ok 3\nans 0 7 3 ok\nans 0 8 3 turn 0 0 idle\nfile 0 0 0\nguest 0\nstep 0 2 features 0\n"
    ++ codes "step 0 3 num 0 0\nstep 0 4 drive 0 0\nstep 0 5 addr 0 0\nstep 0 6 backend 0 0 1\nstep 0 7 poke\n"
    ++ codes "step 0 8 notices 0 0 0\nring 0 0\nbase 0\nring 0 1\nbase 0\nend\n"

-- ---- a full ring, and a place later

-- a ring of one place is full; in a later phase it is read, and a frame is placed
abbrev pub later : List ℕ
later =
    codes "tapscen 1\nfile 0 1\nsetiff 0 tap0 1102\nphase 1\n@0 send tap0 - 0200000000010200000000020800\n"
    ++ codes "@0 send tap0 - 0200000000010200000000020800\nend\nread 0 100\n"
    ++ codes "send tap0 - 0200000000010200000000020800\n"

-- its trace
abbrev pub later_trace : List ℕ
later_trace =
    codes "taptrace 1\nphase 0 1\nop 1 0 setiff 0 tap0 1102\nans 0 0 1 ok 1\nphase 1 1\n"
    ++ codes "ans 0 1 1 placed 0 0 1 14\nans 0 2 1 drop Full 0 1 0\nphase 2 1\n"
    ++ codes "ans 0 3 1 read 0.1.0 0 0200000000010200000000020800\nans 0 4 1 placed 0 1 1 14\nfile 0 2 1\n"
    ++ codes "line 0 1 0.1.0 14 read\nline 1 1 0.4.0 14 waiting\nend\n"

-- ---- short chains

-- two chains are too short for a frame
abbrev pub short : List ℕ
short =
    codes "tapscen 1\nfile 0 4\nregion 0 0 65536\nvhost 0 0\nsetiff 0 tap0 5102\nhdrsize 0 12\n"
    ++ codes "features 0 0000000100008000\nvnum 0 0 2\ndrive 0 0 0\nvaddr 0 0 0 32 44\nbackend 0 0 0\n"
    ++ codes "postin 0 0 40\npostin 0 0 40\n"
    ++ codes "send tap0 - 0200000000010200000000020800ababababababababababababababababababababababababababababab"
    ++ codes "ababababababababababababababababababababababababababababababababababababababababababababababababab"
    ++ codes "abababababababab\n"
    ++ codes "send tap0 - 0200000000010200000000020800ababababababababababababababababababababababababababababab"
    ++ codes "ababababababababababababababab\nrxturn 0\n"

-- its trace
abbrev pub short_trace : List ℕ
short_trace =
    codes "taptrace 1\nphase 0 1\nop 1 0 setiff 0 tap0 5102\nop 2 1 hdrsize 0 12\nop 3 6 back 0 rx 0\n"
    ++ codes "ans 0 0 1 ok 1\nans 0 1 2 ok 2\nans 0 2 2 ok\nans 0 3 2 ok\nans 0 4 2 ok\nans 0 5 2 ok\n"
    ++ codes "ans 0 6 3 ok 3\nans 0 7 3 posted 0\nans 0 8 3 posted 1\nans 0 9 3 placed 0 0 1 100\n"
    ++ codes "ans 0 10 3 placed 0 1 1 58\nans 0 11 3 turn 0 0 short 112 80\nfile 0 2 2\n"
    ++ codes "line 0 1 0.9.0 100 waiting\nline 1 1 0.10.0 58 waiting\nguest 0\nstep 0 2 features 0\n"
    ++ codes "step 0 3 num 0 0\nstep 0 4 drive 0 0\nstep 0 5 addr 0 0\nstep 0 6 backend 0 0 1\n"
    ++ codes "step 0 7 post 0 0\nstep 0 8 post 0 0\nstep 0 11 notices 0 0 0\nstep 0 11 fetch 0 0 0 0\n"
    ++ codes "step 0 11 fetch 0 0 1 1\nstep 0 11 none 0 0\nstep 0 11 notices 0 0 1\nstep 0 11 none 0 0\n"
    ++ codes "ring 0 0\nbase 0\nring 0 1\nbase 0\nend\n"

-- ---- frames alike

-- three frames alike, and chains for two of them
abbrev pub alike : List ℕ
alike =
    codes "tapscen 1\nfile 0 4\nregion 0 0 65536\nvhost 0 0\nsetiff 0 tap0 5102\nhdrsize 0 12\n"
    ++ codes "features 0 0000000100008000\nvnum 0 0 2\ndrive 0 0 0\nvaddr 0 0 0 32 44\nbackend 0 0 0\n"
    ++ codes "postin 0 0 100\npostin 0 0 100\nsend tap0 - 0200000000010200000000020800abababababab\n"
    ++ codes "send tap0 - 0200000000010200000000020800abababababab\n"
    ++ codes "send tap0 - 0200000000010200000000020800abababababab\nrxturn 0\n"

-- its trace
abbrev pub alike_trace : List ℕ
alike_trace =
    codes "taptrace 1\nphase 0 1\nop 1 0 setiff 0 tap0 5102\nop 2 1 hdrsize 0 12\nop 3 6 back 0 rx 0\n"
    ++ codes "ans 0 0 1 ok 1\nans 0 1 2 ok 2\nans 0 2 2 ok\nans 0 3 2 ok\nans 0 4 2 ok\nans 0 5 2 ok\n"
    ++ codes "ans 0 6 3 ok 3\nans 0 7 3 posted 0\nans 0 8 3 posted 1\nans 0 9 3 placed 0 0 1 20\n"
    ++ codes "ans 0 10 3 placed 0 1 1 20\nans 0 11 3 placed 0 2 1 20\nans 0 12 3 turn 2 64 short 32 0\n"
    ++ codes "file 0 3 3\nline 0 1 0.9.0 20 guest\nline 1 1 0.10.0 20 guest\nline 2 1 0.11.0 20 waiting\n"
    ++ codes "guest 0\nstep 0 2 features 0\nstep 0 3 num 0 0\nstep 0 4 drive 0 0\nstep 0 5 addr 0 0\n"
    ++ codes "step 0 6 backend 0 0 1\nstep 0 7 post 0 0\nstep 0 8 post 0 0\nstep 0 12 notices 0 0 0\n"
    ++ codes "step 0 12 fetch 0 0 0 0\nstep 0 12 copy 0 0 0 0.9.0\nstep 0 12 fetch 0 0 1 1\n"
    ++ codes "step 0 12 copy 0 0 1 0.10.0\nstep 0 12 none 0 0\nstep 0 12 notices 0 0 1\nstep 0 12 none 0 0\n"
    ++ codes "step 0 12 publish 0 0 2 1\nring 0 0\nbase 0\nused 0 0 32\nused 1 1 32\nring 0 1\nbase 0\nend\n"

-- ---- a ring that changes its file

-- a chain is posted to a transmit ring; then one actor gives the ring a file, one has a turn, one takes the file off,
-- and one gives it another
abbrev pub moved : List ℕ
moved =
    codes "tapscen 1\nfile 0 1\nfile 1 1\nregion 0 0 65536\nvhost 0 0\nsetiff 0 tap0 5102\n"
    ++ codes "setiff 1 tap0 5102\nhdrsize 0 12\nfeatures 0 0000000100008000\nvnum 0 1 2\ndrive 0 1 0\n"
    ++ codes "vaddr 0 1 0 32 44\npostout 0 1 0000000000000000000000000200000000010200000000020800aabbccddeeff\n"
    ++ codes "phase 4\n@0 backend 0 1 0\n@1 txturn 0\n@2 backend 0 1 -\n@3 backend 0 1 1\nend\n"
